use Rattle.std.proofs.Common.{sym, ◌∙◌}
use Rattle.std.proofs.lemmas.Bool.{eq-eqb, ne_eqb}
use Rattle.ifr_opcodes.specs.declared.codes.TheConstants.{FORM_SET}
use Rattle.ifr_index.specs.code.Levels.{node_with}
use Rattle.ifr_index.proofs.SoundLemmas.{placed_later, placed_set}
use Rattle.ifr_index.proofs.soundness.is_placed.Goals as goal

pub returns-then-not-is_first : goal.returns-then-not-is_first
returns-then-not-is_first c = λ ns path children same root.
    c.holds.ensures ns path children same ∙ placed_later (node_with c.args.op path children) (sym root ∙ c.if-is_root.false) (ne_eqb c.args.op.place 4 c.if-not-is_first.true)

pub returns-then-op-eq-FORM_SET : goal.returns-then-op-eq-FORM_SET
returns-then-op-eq-FORM_SET c = λ ns path children same root.
    c.holds-then-op-eq-FORM_SET.ensures ns path children same ∙ placed_set (node_with c.args.op path children) (sym root ∙ c.if-is_root.false) (eq-eqb c.args.op.code FORM_SET c.if-op-eq-FORM_SET.true)

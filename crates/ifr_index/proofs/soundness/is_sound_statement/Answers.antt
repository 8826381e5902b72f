use Rattle.std.proofs.Common.{ap, sym, ◌∙◌}
use Rattle.std.specs.Prelude.{not, ◌&&◌}
use Rattle.std.proofs.lemmas.Bool.{eq-eqb, ne_eqb}
use Rattle.ifr_opcodes.specs.code.Ops.{bytes_of}
use Rattle.ifr_opcodes.specs.Rows.{is_short}
use Rattle.ifr_index.specs.code.Levels.{node_with}
use Rattle.ifr_index.proofs.SoundLemmas.{statement_clear}
use Rattle.ifr_index.proofs.soundness.is_sound_statement.Goals as goal

pub returns-then-op : goal.returns-then-op
returns-then-op c = λ path children around.
    ap not c.is_short.ensures ∙ ap (λ b. not b && not (is_short (bytes_of c.args.op))) (sym (ne_eqb c.args.op.place 4 c.if-op.true)) ∙ sym (statement_clear (node_with c.args.op path children) c.requires around)

pub returns-else-op : goal.returns-else-op
returns-else-op c = λ path children around.
    let first = eq-eqb c.args.op.place 4 c.if-op.false in
    ap not first ∙ ap (λ b. not b && not (is_short (bytes_of c.args.op))) (sym first) ∙ sym (statement_clear (node_with c.args.op path children) c.requires around)

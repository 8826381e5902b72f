use Rattle.std.proofs.Common.{refl, ap, sym, ◌∙◌}
use Rattle.std.specs.Prelude.{not}
use Rattle.std.proofs.lemmas.Bool.{eq-eqb, ne_eqb}
use Rattle.ifr_index.specs.code.Levels.{node_with}
use Rattle.ifr_index.proofs.SoundLemmas.{option_clear}
use Rattle.ifr_index.proofs.soundness.is_sound_option.Goals as goal

pub returns-then-op : goal.returns-then-op
returns-then-op c = λ path children held.
    let first = eq-eqb c.args.op.place 4 c.if-op.true in
    sym (option_clear (node_with c.args.op path children) c.requires held ∙ rw first refl)

pub returns-then-not-is_outside : goal.returns-then-not-is_outside
returns-then-not-is_outside c = λ path children held.
    let later = ne_eqb c.args.op.place 4 c.if-op.false in
    let inside = sym c.is_outside.ensures ∙ c.if-not-is_outside.true in
    ap not c.is_short.ensures ∙ sym (option_clear (node_with c.args.op path children) c.requires held ∙ rw (later, inside) refl)

pub returns-else-not-is_outside : goal.returns-else-not-is_outside
returns-else-not-is_outside c = λ path children held.
    let later = ne_eqb c.args.op.place 4 c.if-op.false in
    let outside = sym c.is_outside.ensures ∙ c.if-not-is_outside.false in
    ap not c.if-not-is_outside.false ∙ sym (option_clear (node_with c.args.op path children) c.requires held ∙ rw (later, outside) refl)

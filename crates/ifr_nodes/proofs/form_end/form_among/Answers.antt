use Rattle.std.proofs.Common.{ℕ, List, map, ap, sym, ◌∙◌, arith}
use Rattle.std.proofs.lemmas.List.{drop_all}
use Rattle.ifr_opcodes.specs.code.Marks.{ancestor_at}
use Rattle.ifr_nodes.proofs.FormLemmas.{innermost, innermost_form}
use Rattle.ifr_nodes.proofs.form_end.form_among.Goals as goal

pub returns : goal.returns
returns c =
    let places = c.args.places.now in
    let around = ancestor_at c.args.bytes.now in
    ap (λ (l : List ℕ). innermost c.loop-place.found (map around l)) (sym (drop_all c.loop-place.place-index places (omega (arith, c.loop-place-test.false)))) ∙ c.loop-place.invariant ∙ innermost_form (map around places)

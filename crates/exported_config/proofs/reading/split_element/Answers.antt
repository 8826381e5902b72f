use Rattle.std.proofs.Common.{◌+◌, ◌∷◌, List, ℕ, take, ap, sym, ◌∙◌, arith}
use Rattle.std.proofs.lemmas.List.{take_rest}
use Rattle.std.specs.List.{slice_split}
use Rattle.exported_config.specs.Exported.{is_separator}
use Rattle.exported_config.proofs.ElementLemmas.{element_at, element_whole}
use Rattle.exported_config.proofs.reading.split_element.Goals as goal

pub returns-then-is_separator-clause-elements : goal.returns-then-is_separator-clause-elements
returns-then-is_separator-clause-elements c =
    let text = c.args.text.now in
    let place = c.loop-place.place in
    element_at text place c.loop-place.invariant c.loop-place-test.true (sym c.is_separator.ensures ∙ c.if-is_separator.true)
    ∙ ap (λ (l : List ℕ). take place text ∷ slice_split is_separator l) (sym (take_rest text (place + 1)))

pub returns-clause-elements : goal.returns-clause-elements
returns-clause-elements c = element_whole c.args.text.now c.loop-place.place c.loop-place.invariant (omega (arith, c.loop-place-test.false))

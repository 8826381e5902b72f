use Rattle.std.proofs.Common.{◌≡◌, ◌<◌, Some, length, get_or, rules, sym, ap, ◌∙◌, arith}
use Rattle.std.specs.declared.cmp.Ordering.TheVariants.{Equal}
use Rattle.std.specs.Ordering.{nat_cmp}
use Rattle.std.proofs.lemmas.Bool.{ltb-true}
use Rattle.std.proofs.lemmas.Bool.Decides.{nat_tests}
use Rattle.std.proofs.lemmas.List.{get_or_default}
use Rattle.std.proofs.lemmas.List.Sorted.{answers_always}
use Rattle.sibt_strings.specs.declared.place.TextPlace.{TextPlace}
use Rattle.sibt_strings.proofs.TableLemmas.{place_searched, place_not_found}
use Rattle.sibt_strings.proofs.place.place_at.Goals as goal

pub returns-in-Ok : goal.returns-in-Ok
returns-in-Ok c = λ low high rise.
    let by_key = c.in-Ok.ensures.position (λ p. p.id) (answers_always _ _ _ (λ f a r g called. search rules)) in
    sym (place_searched low high c.args.places.now c.args.id c.in-Ok.at _ rise c.in-Ok.ensures.bound by_key)

pub returns-in-Err : goal.returns-in-Err
returns-in-Err c = λ low high rise.
    let by_key = c.in-Err.ensures.position (λ p. p.id) (answers_always _ _ _ (λ f a r g called. search rules)) in
    sym (place_not_found low high c.args.places.now c.args.id _ rise c.in-Err.ensures.bound by_key)

pub returns-then-place-id : goal.returns-then-place-id
returns-then-place-id c = λ low high rise.
    let places = c.args.places.now in
    let at = c.from.result in
    let here : c.in-Some.place.now ≡ get_or places at c.in-Some.place.now = c.in-Some.ensures.lookup.1 in
    let within : at < length places = ltb-true at (length places) (sym c.in-Some.ensures.lookup.0) in
    let equal : (d : TextPlace) → nat_cmp (get_or places at d).id c.args.id ≡ Equal = λ d.
    let same : (get_or places at d).id ≡ c.args.id = ap (λ (p : TextPlace). p.id) (get_or_default places at d c.in-Some.place.now within ∙ sym here) ∙ c.if-place-id.true in
    grind (arith, nat_tests) in
    ap (λ (p : TextPlace). Some p.place) here ∙ sym (place_searched low high places c.args.id at c.in-Some.place.now rise within equal)

use Rattle.std.proofs.Common.{◌≡◌, ◌<◌, ◌&&◌, List, length, get_or, sym, ap, subst, ◌∙◌}
use Rattle.kept_conditions.specs.Kept.{KeptValues, held}
use Rattle.kept_conditions.specs.code.Dependents.{is_condition, no_dependent}
use Rattle.kept_conditions.specs.declared.dependents.Dependent.{Dependent}
use Rattle.kept_conditions.proofs.LookupLemmas.{told_at}
use Rattle.kept_conditions.proofs.cache.Kept.holds_by.Goals as goal

pub returns-then-dependent-place : goal.returns-then-dependent-place
returns-then-dependent-place c =
    let at = c.in-Some.at.now in
    let place = c.args.place in
    let dependent = c.in-Some-get.dependent.now in
    let found = subst (λ (xs : List Dependent). (at < length xs) × (dependent ≡ get_or xs at no_dependent)) c.deref.ensures.value (c.in-Some-get.ensures.lookup.3.0, c.in-Some-get.ensures.lookup.3.1 no_dependent) in
    let stands = ap (λ (r : Dependent). r.place) (sym found.1) ∙ c.if-dependent-place.true in
    c.condition_holds.ensures
    ∙ ap (λ (r : Dependent). is_condition r && r.holds) found.1
    ∙ sym (told_at place c.self.inside.dependents.list.items at no_dependent c.self.invariant.rise found.0 stands)
    ∙ ap (λ (k : KeptValues). held k.values place) c.self.view_is

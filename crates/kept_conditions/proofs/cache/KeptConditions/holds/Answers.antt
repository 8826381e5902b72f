use Rattle.std.proofs.Common.{rules, ◌&&◌, ◌<◌, ◌≤◌, List, length, sym, ap, subst, ◌∙◌, Ok, Err}
use Rattle.std.specs.List.Sorted.{IsBinarySearchResult}
use Rattle.std.specs.Ordering.{nat_cmp}
use Rattle.std.proofs.lemmas.List.Sorted.{answers_always}
use Rattle.kept_conditions.specs.Kept.{KeptValues, held}
use Rattle.kept_conditions.specs.code.Dependents.{is_condition}
use Rattle.kept_conditions.specs.declared.dependents.Dependent.{Dependent}
use Rattle.kept_conditions.proofs.LookupLemmas.{found_at, none_at}
use Rattle.kept_conditions.proofs.cache.KeptConditions.holds.Goals as goal

pub returns-in-Ok : goal.returns-in-Ok
returns-in-Ok c =
    let at = c.in-Ok.at in
    let place = c.args.place in
    let equal = c.in-Ok.ensures.position (λ (x : Dependent). x.place) (answers_always _ _ _ (λ f a r g called. search rules)) in
    let found = subst (λ (xs : List Dependent). (at < length xs) × IsBinarySearchResult (λ (x : Dependent). nat_cmp x.place place) xs (Ok at)) c.deref.ensures.value (c.in-Ok.ensures.bound, equal) in
    c.condition_holds.ensures ∙ ap (λ (x : Dependent). is_condition x && x.holds) c.index.ensures
    ∙ sym (found_at place c.self.inside.dependents.list.items at c.index.result.now c.self.invariant.rise found.0 found.1)
    ∙ ap (λ (k : KeptValues). held k.values place) c.self.view_is

pub returns-in-Err : goal.returns-in-Err
returns-in-Err c =
    let at = c.in-Err.field-0 in
    let place = c.args.place in
    let parted = c.in-Err.ensures.position (λ (x : Dependent). x.place) (answers_always _ _ _ (λ f a r g called. search rules)) in
    let missing = subst (λ (xs : List Dependent). (at ≤ length xs) × IsBinarySearchResult (λ (x : Dependent). nat_cmp x.place place) xs (Err at)) c.deref.ensures.value (c.in-Err.ensures.bound, parted) in
    sym (none_at place c.self.inside.dependents.list.items at c.self.invariant.rise missing.0 missing.1)
    ∙ ap (λ (k : KeptValues). held k.values place) c.self.view_is

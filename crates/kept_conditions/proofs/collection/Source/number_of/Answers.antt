use Rattle.std.proofs.Common.{ℕ, List, Ok, Err, nat_cmp, subst, arith}
use Rattle.std.specs.Prelude.{Contains}
use Rattle.std.specs.List.Sorted.{IsBinarySearchResult}
use Rattle.kept_conditions.proofs.DependentLemmas.{found_number, never_missing}
use Rattle.kept_conditions.proofs.collection.Source.number_of.Goals as goal

pub unreachable-requires : goal.unreachable-requires
unreachable-requires c =
    never_missing c.args.self.forms.now c.args.self.accepted c.args.place c.in_default.field-0
    (subst (λ (l : List ℕ). IsBinarySearchResult (λ y. nat_cmp y c.args.place) l (Err c.in_default.field-0)) c.args.self.placed c.in_default.ensures.position)
    (subst (λ (l : List ℕ). Contains l c.args.place) c.args.self.placed c.requires)

pub overflow_cast-result : goal.overflow_cast-result
overflow_cast-result c =
    let found = found_number c.args.self.forms.now c.args.self.accepted c.args.place c.in-Ok.number
    (subst (λ (l : List ℕ). IsBinarySearchResult (λ y. nat_cmp y c.args.place) l (Ok c.in-Ok.number)) c.args.self.placed c.in-Ok.ensures.position) in
    omega (arith, found.2, c.ranges.place.fits)

pub returns-clause-there : goal.returns-clause-there
returns-clause-there c =
    let found = found_number c.args.self.forms.now c.args.self.accepted c.args.place c.in-Ok.number
    (subst (λ (l : List ℕ). IsBinarySearchResult (λ y. nat_cmp y c.args.place) l (Ok c.in-Ok.number)) c.args.self.placed c.in-Ok.ensures.position) in
    found.1

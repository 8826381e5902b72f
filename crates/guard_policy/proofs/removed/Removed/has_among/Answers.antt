use Rattle.std.proofs.Common.{ap, subst, ◌∙◌, List, ℕ}
use Rattle.std.specs.List.Sorted.{IsBinarySearchResult}
use Rattle.std.specs.Ordering.{nat_cmp}
use Rattle.ifr_opcodes.specs.Rows.{is_among}
use Rattle.guard_policy.proofs.RemovedLemmas.{is_there}
use Rattle.guard_policy.proofs.removed.Removed.has_among.Goals as goal

pub returns : goal.returns
returns c =
    let found = subst (λ (xs : List ℕ). IsBinarySearchResult (λ y. nat_cmp y c.args.place) xs c.binary_search.result) c.as_slice.ensures c.binary_search.ensures.position in
    c.is_ok.ensures.value ∙ is_there c.self.inside.places.items c.args.place c.binary_search.result c.self.invariant found ∙ ap (is_among c.args.place) c.self.view_is

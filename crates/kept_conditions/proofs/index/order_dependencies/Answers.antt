use Rattle.std.proofs.Common.{◌<◌}
use Rattle.std.proofs.lemmas.List.Sorted.{All-permutation}
use Rattle.kept_conditions.specs.code.Index.{first_of}
use Rattle.kept_conditions.specs.declared.index.Dependency.{Dependency}
use Rattle.kept_conditions.proofs.SortLemmas.{has_same, dependency_eq, dependencies_rise, rises_still, same_dependency}
use Rattle.kept_conditions.proofs.index.order_dependencies.Goals as goal

pub returns-clause-same : goal.returns-clause-same
returns-clause-same c = has_same dependency_eq same_dependency _ _ _ c.sort_unstable.ensures.permutation c.dedup.ensures.filtered

pub returns-clause-sorted : goal.returns-clause-sorted
returns-clause-sorted c =
    let small = All-permutation (λ (r : Dependency). r.field.offset < 65536) _ _ c.sort_unstable.ensures.permutation c.requires in
    rises_still dependency_eq first_of _ _ c.dedup.ensures.filtered (dependencies_rise _ small c.sort_unstable.ensures.sorted)

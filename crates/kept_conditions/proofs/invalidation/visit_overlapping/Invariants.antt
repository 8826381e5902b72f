use Rattle.std.proofs.Common.{◌≤◌, length, drop}
use Rattle.guard_policy.specs.code.RuleValues.{AreRuleValues}
use Rattle.guard_policy.specs.code.Views.{bytes_of, world}
use Rattle.guard_policy.specs.code.Worlds.{is_met_at}
use Rattle.kept_conditions.specs.code.Index.{hits}
use Rattle.kept_conditions.proofs.VisitsSomeLemmas.{AreVisited}
use Rattle.kept_conditions.proofs.invalidation.visit_overlapping.Given as goal

-- the dependents are visited that have a dependency from the place on that overlaps these bytes
abbrev pub invariant-loop-at : goal.invariant-loop-at
invariant-loop-at l = record {
  within : l.before ≤ length l.dependencies;
  visited : AreVisited (is_met_at (world l.now.policy l.now.stores.now)) (hits l.from l.«end» (drop l.before l.dependencies)) l.fn.dependents l.dependents l.count;
  kept : AreRuleValues (bytes_of l.now.policy) l.now.stores.now l.rules;
}

abbrev pub decreases-loop-at : goal.decreases-loop-at
decreases-loop-at l = l.before

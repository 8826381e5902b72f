use Rattle.std.proofs.Common.{◌≤◌, length, drop}
use Rattle.guard_policy.specs.code.RuleValues.{AreRuleValues}
use Rattle.guard_policy.specs.code.Views.{bytes_of, world}
use Rattle.guard_policy.specs.code.Worlds.{is_met_at}
use Rattle.kept_conditions.specs.Touching.{difference}
use Rattle.kept_conditions.specs.code.Invalidation.{common, in_range}
use Rattle.kept_conditions.specs.code.Index.{depends_on}
use Rattle.kept_conditions.proofs.VisitsSomeLemmas.{AreVisited}
use Rattle.kept_conditions.proofs.invalidation.visit_range.Given as goal

-- the dependents of the dependencies from the place on are visited that have a byte of the range in which the stores differ
abbrev pub invariant-loop-at : goal.invariant-loop-at
invariant-loop-at l = record {
  within : l.before ≤ length l.dependencies;
  visited : AreVisited (is_met_at (world l.now.policy l.now.stores.now)) (depends_on (common (difference l.old l.new) (in_range l.range)) (drop l.before l.dependencies)) l.fn.dependents l.dependents l.count;
  kept : AreRuleValues (bytes_of l.now.policy) l.now.stores.now l.rules;
}

abbrev pub decreases-loop-at : goal.decreases-loop-at
decreases-loop-at l = l.before

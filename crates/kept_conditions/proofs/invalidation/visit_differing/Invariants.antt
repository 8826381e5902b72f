use Rattle.std.proofs.Common.{◌≡◌, take}
use Rattle.guard_policy.specs.code.RuleValues.{AreRuleValues}
use Rattle.guard_policy.specs.code.Views.{bytes_of, world}
use Rattle.guard_policy.specs.code.Worlds.{is_met_at}
use Rattle.kept_conditions.specs.Touching.{difference}
use Rattle.kept_conditions.specs.code.Index.{depends_on}
use Rattle.kept_conditions.proofs.VisitsSomeLemmas.{AreVisited}
use Rattle.kept_conditions.proofs.invalidation.visit_differing.Given as goal

-- the dependents of the dependencies so far are visited that have a byte in which the stores differ
abbrev pub invariant-loop-dependency : goal.invariant-loop-dependency
invariant-loop-dependency l = record {
  one : l.differences.one.now ≡ l.old;
  other : l.differences.other.now ≡ l.new;
  visited : AreVisited (is_met_at (world l.now.policy l.now.stores.now)) (depends_on (difference l.old l.new) (take l.dependency-index l.dependencies)) l.fn.dependents l.dependents l.count;
  kept : AreRuleValues (bytes_of l.now.policy) l.now.stores.now l.rules;
}

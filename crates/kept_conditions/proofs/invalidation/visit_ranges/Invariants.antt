use Rattle.std.proofs.Common.{◌≡◌, ◌<◌, ◌||◌, ℕ, length}
use Rattle.hii_varstore.specs.Stores.{shape_of}
use Rattle.guard_policy.specs.code.RuleValues.{AreRuleValues}
use Rattle.guard_policy.specs.code.Views.{bytes_of, world}
use Rattle.guard_policy.specs.code.Worlds.{is_met_at}
use Rattle.kept_conditions.specs.Touching.{difference}
use Rattle.kept_conditions.specs.code.Dependents.{VisitsSome, KeepsFollowing, was_visited}
use Rattle.kept_conditions.specs.code.Index.{depends_on}
use Rattle.kept_conditions.specs.code.Invalidation.{HaveRanges, AreAlikeOutside}
use Rattle.kept_conditions.proofs.invalidation.visit_ranges.Given as goal

-- the dependents are visited of the bytes in which the stores differ no more
abbrev pub invariant-loop-range : goal.invariant-loop-range
invariant-loop-range g l = record {
  visits : VisitsSome (is_met_at (world l.now.policy l.now.stores.now)) l.fn.dependents l.dependents l.count;
  left : (k : ℕ) → k < length l.fn.dependents.list.items
      → (depends_on (difference l.old l.new) l.index.dependencies.items k || was_visited l.dependents k)
      ≡ (depends_on (difference l.fn.old l.new) l.index.dependencies.items k || was_visited l.fn.dependents k);
  follows : KeepsFollowing l.fn.dependents l.dependents;
  shape : shape_of l.old ≡ shape_of l.fn.old;
  inside : HaveRanges (shape_of l.new) (g.R.Ranges.ranges l.ranges);
  alike : AreAlikeOutside (g.R.Ranges.ranges l.ranges) l.old l.new;
  kept : AreRuleValues (bytes_of l.now.policy) l.now.stores.now l.rules;
}

abbrev pub decreases-loop-range : goal.decreases-loop-range
decreases-loop-range g l = length (g.R.Ranges.ranges l.ranges)

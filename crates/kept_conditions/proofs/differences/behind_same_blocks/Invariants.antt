use Rattle.std.proofs.Common.{◌≤◌, ◌-◌}
use Rattle.kept_conditions.specs.code.Invalidation.{other_at, NoneWithin}
use Rattle.kept_conditions.proofs.differences.behind_same_blocks.Given as goal

-- the blocks that were passed are the same
abbrev pub invariant-loop-at : goal.invariant-loop-at
invariant-loop-at l = record { from : l.from ≤ l.at; none : NoneWithin (other_at l.old l.new 0) l.from l.at }

abbrev pub decreases-loop-at : goal.decreases-loop-at
decreases-loop-at l = l.end - l.at

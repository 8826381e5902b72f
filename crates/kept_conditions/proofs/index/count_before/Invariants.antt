use Rattle.std.proofs.Common.{◌≤◌, ◌-◌, length}
use Rattle.kept_conditions.proofs.index.count_before.Given as goal

abbrev pub invariant-loop-count : goal.invariant-loop-count
invariant-loop-count l = l.count ≤ length l.dependencies

abbrev pub decreases-loop-count : goal.decreases-loop-count
decreases-loop-count l = length l.dependencies - l.count

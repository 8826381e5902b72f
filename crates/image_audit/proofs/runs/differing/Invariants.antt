use Rattle.std.proofs.Common.{◌≡◌, ◌≤◌, ◌+◌, ◌-◌, drop, length}
use Rattle.image_audit.specs.Difference.{differing}
use Rattle.image_audit.proofs.runs.differing.Given as goal

-- so many bytes differ, and those behind them are left to be counted
abbrev pub invariant-loop-count : goal.invariant-loop-count
invariant-loop-count l =
    (l.count ≤ length l.one) × (l.count ≤ length l.other)
    × (differing l.one l.other ≡ l.count + differing (drop l.count l.one) (drop l.count l.other))

abbrev pub decreases-loop-count : goal.decreases-loop-count
decreases-loop-count l = length l.one - l.count

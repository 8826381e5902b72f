use Rattle.std.proofs.Common.{◌≤◌}
use Rattle.kept_conditions.specs.code.Index.{NoneOverlaps}
use Rattle.kept_conditions.proofs.index.last_overlapping.Given as goal

-- none of those that were passed overlaps these bytes
abbrev pub invariant-loop-left : goal.invariant-loop-left
invariant-loop-left l = record { within : l.left ≤ l.before; passed : NoneOverlaps l.from l.end l.dependencies l.left l.before }

abbrev pub decreases-loop-left : goal.decreases-loop-left
decreases-loop-left l = l.left

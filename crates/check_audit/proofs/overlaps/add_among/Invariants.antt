use Rattle.std.proofs.Common.{◌≡◌, ◌++◌, length}
use Rattle.check_audit.specs.Overlaps.{overlaps_among}
use Rattle.check_audit.proofs.overlaps.add_among.Given as goal

-- with those of the fields that are left all are added
abbrev pub invariant-loop-rest : goal.invariant-loop-rest
invariant-loop-rest l = l.warnings.items ++ overlaps_among l.rest ≡ l.fn.warnings.items ++ overlaps_among l.fn.laid

abbrev pub decreases-loop-rest : goal.decreases-loop-rest
decreases-loop-rest l = length l.rest

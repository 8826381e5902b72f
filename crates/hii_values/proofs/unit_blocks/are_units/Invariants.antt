use Rattle.std.proofs.Common.{◌≡◌, length}
use Rattle.std.specs.Prelude.{◌&&◌}
use Rattle.hii_values.specs.code.UnitBlocks.{are_units}
use Rattle.hii_values.proofs.unit_blocks.are_units.Given as goal

-- no unit so far is 0, and none of those that are left, where none of all is
abbrev pub invariant-loop-rest : goal.invariant-loop-rest
invariant-loop-rest l = (l.are && are_units l.rest) ≡ are_units l.bytes

abbrev pub decreases-loop-rest : goal.decreases-loop-rest
decreases-loop-rest l = length l.rest

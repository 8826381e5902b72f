use Rattle.std.proofs.Common.{◌≡◌, ◌+◌, ◌*◌, ◌≤◌, length, drop}
use Rattle.hii_values.specs.Items.{items_in}
use Rattle.hii_values.proofs.unit_blocks.unit_blocks.Given as goal

-- the items of the blocks so far are as many as their units
abbrev pub invariant-loop-rest : goal.invariant-loop-rest
invariant-loop-rest l = record {
  within : l.end ≤ length l.bytes;
  behind : l.rest ≡ drop l.end l.bytes;
  counted : l.end + length (items_in 2 l.rest) * 2 ≡ length (items_in 2 l.bytes) * 2;
}

abbrev pub decreases-loop-rest : goal.decreases-loop-rest
decreases-loop-rest l = length l.rest

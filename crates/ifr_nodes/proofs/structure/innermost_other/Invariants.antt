use Rattle.std.proofs.Common.{◌≡◌, All, map, length}
use Rattle.ifr_opcodes.specs.Opcode.{IsWhole}
use Rattle.ifr_opcodes.specs.code.Marks.{mark_at, ancestor_at}
use Rattle.ifr_nodes.specs.Table.{others_among}
use Rattle.ifr_nodes.proofs.structure.innermost_other.Given as goal

-- guards alone were passed
abbrev pub invariant-loop-place : goal.invariant-loop-place
invariant-loop-place l = record {
  whole : All (λ place. IsWhole (mark_at l.bytes place).op) l.left;
  same : others_among (map (ancestor_at l.bytes) l.left) ≡ others_among (map (ancestor_at l.bytes) l.places);
}

abbrev pub decreases-loop-place : goal.decreases-loop-place
decreases-loop-place l = length l.left

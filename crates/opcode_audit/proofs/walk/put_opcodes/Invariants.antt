use Rattle.std.proofs.Common.{◌≡◌, ◌+◌, ◌≤◌, drop, length}
use Rattle.hii_bytes.specs.Watching.{pen_of}
use Rattle.opcode_audit.specs.Lines.{lines}
use Rattle.opcode_audit.specs.Walk.{opcodes_in}
use Rattle.opcode_audit.proofs.LineLemmas.{Walks}
use Rattle.opcode_audit.proofs.walk.put_opcodes.Given as goal

-- the lines of the opcodes before the rest are written, which begins at the place
abbrev pub invariant-loop-opcode : goal.invariant-loop-opcode
invariant-loop-opcode g l = record {
  walks : Walks (pen_of g.W.Write.contents l.fn.out) (pen_of g.W.Write.contents l.out) (lines record { telling = l.fn.telling; spoken = l.strings; base = l.base } 4 0 (opcodes_in (drop 4 l.source.bytes.now))) record { telling = l.fn.telling; spoken = l.strings; base = l.base } l.place l.scopes l.rest;
  within : l.place + length l.rest ≡ length l.source.bytes.now;
  few : l.scopes ≤ l.place;
}

abbrev pub decreases-loop-opcode : goal.decreases-loop-opcode
decreases-loop-opcode g l = length l.rest

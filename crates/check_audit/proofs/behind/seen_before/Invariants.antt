use Rattle.std.proofs.Common.{length}
use Rattle.check_audit.specs.Behind.{seen_before}
use Rattle.check_audit.proofs.SeenLemmas.{Sees}
use Rattle.check_audit.proofs.behind.seen_before.Given as goal

-- the opcodes before the rest are seen
abbrev pub invariant-loop-opcode : goal.invariant-loop-opcode
invariant-loop-opcode l = Sees l.seen l.rest (seen_before l.ifr l.place)

abbrev pub decreases-loop-opcode : goal.decreases-loop-opcode
decreases-loop-opcode l = length l.rest

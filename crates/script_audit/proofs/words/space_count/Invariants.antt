use Rattle.std.proofs.Common.{◌≡◌, ◌+◌, ◌≤◌, length}
use Rattle.script_audit.specs.Words.{space_count}
use Rattle.script_audit.proofs.words.space_count.Given as goal

-- the spaces of the bytes that are left are counted, too
abbrev pub invariant-loop-rest : goal.invariant-loop-rest
invariant-loop-rest l = (l.count + space_count l.rest ≡ space_count l.text) × (l.count + length l.rest ≤ length l.text)

abbrev pub decreases-loop-rest : goal.decreases-loop-rest
decreases-loop-rest l = length l.rest

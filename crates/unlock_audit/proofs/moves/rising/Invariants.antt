use Rattle.std.proofs.Common.{◌≡◌, drop}
use Rattle.std.specs.Ordering.{nat_cmp}
use Rattle.unlock_audit.specs.Rising.{added_each, rising}
use Rattle.unlock_audit.proofs.moves.rising.Given as goal

-- the numbers that are left are left to be added
abbrev pub invariant-loop-number : goal.invariant-loop-number
invariant-loop-number l = added_each nat_cmp l.rising.keys (drop l.number-index l.numbers) ≡ rising nat_cmp l.numbers

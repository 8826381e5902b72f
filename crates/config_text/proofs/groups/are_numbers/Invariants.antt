use Rattle.std.proofs.Common.{◌≡◌, ℕ, ◌<◌, get_or}
use Rattle.config_text.specs.code.PartReading.{group_numbers}
use Rattle.config_text.proofs.groups.are_numbers.Given as goal

-- the numbers so far are those of the groups
abbrev pub invariant-loop-place : goal.invariant-loop-place
invariant-loop-place l = (k : ℕ) → k < l.place → get_or (group_numbers l.size l.digits) k 0 ≡ get_or l.wanted k 0

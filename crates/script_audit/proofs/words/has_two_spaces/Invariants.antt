use Rattle.std.proofs.Common.{◌≡◌, length}
use Rattle.script_audit.specs.Words.{has_two_spaces}
use Rattle.script_audit.proofs.words.has_two_spaces.Given as goal

-- what is behind has no two spaces that begin before
abbrev pub invariant-loop-rest : goal.invariant-loop-rest
invariant-loop-rest l = has_two_spaces l.rest ≡ has_two_spaces l.text

abbrev pub decreases-loop-rest : goal.decreases-loop-rest
decreases-loop-rest l = length l.rest

use Rattle.std.proofs.Common.{◌≡◌, length}
use Rattle.script_audit.specs.Words.{behind_spaces, last_word}
use Rattle.script_audit.proofs.words.last_word.Given as goal

-- the word so far, and the bytes that are left
abbrev pub invariant-loop-rest : goal.invariant-loop-rest
invariant-loop-rest l = behind_spaces l.word l.rest ≡ last_word l.fn.text

abbrev pub decreases-loop-rest : goal.decreases-loop-rest
decreases-loop-rest l = length l.rest

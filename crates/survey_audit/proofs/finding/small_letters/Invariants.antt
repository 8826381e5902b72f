use Rattle.std.specs.Prelude.{◌≡◌}
use Rattle.survey_audit.specs.Finding.{small}
use Rattle.survey_audit.proofs.finding.small_letters.Given as goal

-- the letters so far
abbrev pub invariant-loop-c : goal.invariant-loop-c
invariant-loop-c l = l.letters.items ≡ small l.yielded

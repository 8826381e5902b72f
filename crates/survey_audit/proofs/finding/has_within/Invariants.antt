use Rattle.std.specs.Prelude.{◌≡◌, length}
use Rattle.survey_audit.specs.Finding.{has_within}
use Rattle.survey_audit.proofs.finding.has_within.Given as goal

-- the letters stand in what is left as they stand in all
abbrev pub invariant-loop-rest : goal.invariant-loop-rest
invariant-loop-rest l = has_within l.rest l.letters ≡ has_within l.fn.text l.letters

abbrev pub decreases-loop-rest : goal.decreases-loop-rest
decreases-loop-rest l = length l.rest

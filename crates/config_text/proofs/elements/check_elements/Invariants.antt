use Rattle.std.proofs.Common.{length}
use Rattle.config_text.proofs.StepLemmas.{Behind}
use Rattle.config_text.proofs.elements.check_elements.Given as goal

-- what is read of the text is what is read of the rest, behind some blocks
abbrev pub invariant-loop-rest : goal.invariant-loop-rest
invariant-loop-rest l = Behind l.kind l.fn.text l.rest

abbrev pub decreases-loop-rest : goal.decreases-loop-rest
decreases-loop-rest l = length l.rest

use Rattle.std.proofs.Common.{length}
use Rattle.hii_questions.proofs.steps.+steps_of.Given as goal

abbrev pub decreases-steps_of : goal.decreases-steps_of
decreases-steps_of l = length l.questions.now

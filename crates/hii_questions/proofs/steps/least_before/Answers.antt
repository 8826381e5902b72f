use Rattle.std.proofs.Common.{arith}
use Rattle.hii_questions.proofs.StepLemmas.{met_bound}
use Rattle.hii_questions.proofs.steps.least_before.Goals as goal

pub loop-step-init : goal.loop-step-init
loop-step-init c = let bound = met_bound c.args.none c.args.end c.args.steps.now in record { is = omega (arith, bound); bound = omega arith }

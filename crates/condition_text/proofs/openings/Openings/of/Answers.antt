use Rattle.std.proofs.Common.{arith}
use Rattle.condition_text.proofs.OpeningLemmas.{few_left}
use Rattle.condition_text.proofs.openings.Openings.of.Goals as goal

pub invariant_of-result : goal.invariant_of-result
invariant_of-result c = omega (arith, few_left c.args.rest)

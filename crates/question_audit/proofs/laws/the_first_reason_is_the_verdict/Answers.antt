use Rattle.question_audit.proofs.ReasonLemmas.{first_is_verdict}
use Rattle.question_audit.proofs.laws.the_first_reason_is_the_verdict.Goals as goal

pub returns : goal.returns
returns c = λ w n asks. first_is_verdict w n asks

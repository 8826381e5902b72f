use Rattle.rules_laws.proofs.QuestionFaultLemmas.{same_question_faults}
use Rattle.rules_laws.proofs.question_faults.faults_of_questions_are_the_same.Goals as goal

pub returns : goal.returns
returns c = same_question_faults

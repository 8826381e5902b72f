use Rattle.hii_questions.proofs.LawLemmas.{finds_questions}
use Rattle.hii_questions.proofs.laws.questions_of_ids_are_questions.Goals as goal

pub returns : goal.returns
returns c = finds_questions

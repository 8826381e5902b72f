use Rattle.hii_questions.proofs.FieldLemmas.{have_the_field}
use Rattle.hii_questions.proofs.laws.questions_with_a_field_have_it.Goals as goal

pub returns : goal.returns
returns c = have_the_field

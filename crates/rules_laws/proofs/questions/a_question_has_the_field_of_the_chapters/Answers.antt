use Rattle.std.proofs.Common.{refl}
use Rattle.rules_laws.proofs.QuestionLemmas.{field_same, questions_same, listed_same, by_id_same, read_same, put_same}
use Rattle.rules_laws.proofs.questions.a_question_has_the_field_of_the_chapters.Goals as goal

pub returns-clause-field : goal.returns-clause-field
returns-clause-field c = field_same

pub returns-clause-which : goal.returns-clause-which
returns-clause-which c = questions_same

pub returns-clause-listed : goal.returns-clause-listed
returns-clause-listed c = listed_same

pub returns-clause-by_id : goal.returns-clause-by_id
returns-clause-by_id c = by_id_same

pub returns-clause-same : goal.returns-clause-same
returns-clause-same c = λ f g. refl

pub returns-clause-met : goal.returns-clause-met
returns-clause-met c = λ f g. refl

pub returns-clause-read : goal.returns-clause-read
returns-clause-read c = read_same

pub returns-clause-written : goal.returns-clause-written
returns-clause-written c = put_same

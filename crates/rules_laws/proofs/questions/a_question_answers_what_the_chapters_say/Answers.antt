use Rattle.rules_laws.proofs.QuestionLemmas.{answer_same, whole_only, whole_there, answers_same, all_answers_same}
use Rattle.rules_laws.proofs.questions.a_question_answers_what_the_chapters_say.Goals as goal

pub returns-clause-one : goal.returns-clause-one
returns-clause-one c = answer_same

pub returns-clause-only : goal.returns-clause-only
returns-clause-only c = whole_only

pub returns-clause-whole : goal.returns-clause-whole
returns-clause-whole c = whole_there

pub returns-clause-of_id : goal.returns-clause-of_id
returns-clause-of_id c = answers_same

pub returns-clause-all : goal.returns-clause-all
returns-clause-all c = all_answers_same

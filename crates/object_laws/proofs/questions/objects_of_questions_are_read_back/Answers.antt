use Rattle.object_laws.proofs.QuestionLemmas.{form_back, guard_back, none_asked_back, question_back, rule_back}
use Rattle.object_laws.proofs.questions.objects_of_questions_are_read_back.Goals as goal

pub returns-clause-form : goal.returns-clause-form
returns-clause-form c = form_back

pub returns-clause-question : goal.returns-clause-question
returns-clause-question c = question_back

pub returns-clause-guard : goal.returns-clause-guard
returns-clause-guard c = guard_back

pub returns-clause-rule : goal.returns-clause-rule
returns-clause-rule c = rule_back

pub returns-clause-none : goal.returns-clause-none
returns-clause-none c = none_asked_back

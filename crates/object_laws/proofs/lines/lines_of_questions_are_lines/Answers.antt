use Rattle.object_laws.proofs.QuestionLineLemmas.{form_is_line, question_is_line}
use Rattle.object_laws.proofs.lines.lines_of_questions_are_lines.Goals as goal

pub returns-clause-form : goal.returns-clause-form
returns-clause-form c = form_is_line

pub returns-clause-question : goal.returns-clause-question
returns-clause-question c = question_is_line

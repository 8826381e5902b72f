use Rattle.object_laws.proofs.FactLineLemmas.{no_question_is_line, question_lines}
use Rattle.object_laws.proofs.lines.lines_of_question_are_lines.Goals as goal

pub returns-clause-facts : goal.returns-clause-facts
returns-clause-facts c = question_lines

pub returns-clause-none : goal.returns-clause-none
returns-clause-none c = no_question_is_line

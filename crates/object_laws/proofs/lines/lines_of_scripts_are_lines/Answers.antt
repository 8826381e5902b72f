use Rattle.object_laws.proofs.ScriptLineLemmas.{answer_is_line, change_is_line, condition_is_line, depends_is_line, error_is_line, reason_is_line, script_line_is_line, unsubmitted_is_line}
use Rattle.object_laws.proofs.lines.lines_of_scripts_are_lines.Goals as goal

pub returns-clause-line : goal.returns-clause-line
returns-clause-line c = script_line_is_line

pub returns-clause-answer : goal.returns-clause-answer
returns-clause-answer c = answer_is_line

pub returns-clause-condition : goal.returns-clause-condition
returns-clause-condition c = condition_is_line

pub returns-clause-reason : goal.returns-clause-reason
returns-clause-reason c = reason_is_line

pub returns-clause-depends : goal.returns-clause-depends
returns-clause-depends c = depends_is_line

pub returns-clause-unsubmitted : goal.returns-clause-unsubmitted
returns-clause-unsubmitted c = unsubmitted_is_line

pub returns-clause-changed : goal.returns-clause-changed
returns-clause-changed c = change_is_line

pub returns-clause-error : goal.returns-clause-error
returns-clause-error c = error_is_line

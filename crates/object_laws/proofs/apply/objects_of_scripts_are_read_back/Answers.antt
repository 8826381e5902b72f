use Rattle.object_laws.proofs.ScriptLemmas.{answer_back, because_back, change_back, depends_back, error_back, forbidden_back, line_back, unsubmitted_back}
use Rattle.object_laws.proofs.apply.objects_of_scripts_are_read_back.Goals as goal

pub returns-clause-line : goal.returns-clause-line
returns-clause-line c = line_back

pub returns-clause-answer : goal.returns-clause-answer
returns-clause-answer c = answer_back

pub returns-clause-condition : goal.returns-clause-condition
returns-clause-condition c = forbidden_back

pub returns-clause-reason : goal.returns-clause-reason
returns-clause-reason c = because_back

pub returns-clause-depends : goal.returns-clause-depends
returns-clause-depends c = depends_back

pub returns-clause-unsubmitted : goal.returns-clause-unsubmitted
returns-clause-unsubmitted c = unsubmitted_back

pub returns-clause-changed : goal.returns-clause-changed
returns-clause-changed c = change_back

pub returns-clause-error : goal.returns-clause-error
returns-clause-error c = error_back

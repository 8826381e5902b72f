use Rattle.object_laws.proofs.SurveyLineLemmas.{counts_is_line, found_is_line, set_fault_is_line, unfit_set_is_line, whole_fault_is_line}
use Rattle.object_laws.proofs.lines.lines_of_survey_are_lines.Goals as goal

pub returns-clause-counts : goal.returns-clause-counts
returns-clause-counts c = counts_is_line

pub returns-clause-unfit : goal.returns-clause-unfit
returns-clause-unfit c = unfit_set_is_line

pub returns-clause-fault : goal.returns-clause-fault
returns-clause-fault c = set_fault_is_line

pub returns-clause-list : goal.returns-clause-list
returns-clause-list c = whole_fault_is_line

pub returns-clause-found : goal.returns-clause-found
returns-clause-found c = found_is_line

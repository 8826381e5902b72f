use Rattle.object_laws.proofs.SurveyLemmas.{counts_back, found_back, list_fault_back, set_fault_back, unfit_back}
use Rattle.object_laws.proofs.survey.objects_of_survey_are_read_back.Goals as goal

pub returns-clause-counts : goal.returns-clause-counts
returns-clause-counts c = counts_back

pub returns-clause-unfit : goal.returns-clause-unfit
returns-clause-unfit c = unfit_back

pub returns-clause-fault : goal.returns-clause-fault
returns-clause-fault c = set_fault_back

pub returns-clause-list : goal.returns-clause-list
returns-clause-list c = list_fault_back

pub returns-clause-found : goal.returns-clause-found
returns-clause-found c = found_back

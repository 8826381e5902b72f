use Rattle.object_laws.proofs.SplitLemmas.{contents_back, fault_back, none_back, rest_back}
use Rattle.object_laws.proofs.split.objects_of_split_are_read_back.Goals as goal

pub returns-clause-contents : goal.returns-clause-contents
returns-clause-contents c = contents_back

pub returns-clause-fault : goal.returns-clause-fault
returns-clause-fault c = fault_back

pub returns-clause-rest : goal.returns-clause-rest
returns-clause-rest c = rest_back

pub returns-clause-none : goal.returns-clause-none
returns-clause-none c = none_back

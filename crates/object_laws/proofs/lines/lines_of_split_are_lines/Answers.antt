use Rattle.object_laws.proofs.LineLemmas.{contents_line, list_fault_line, none_is_line, rest_is_line}
use Rattle.object_laws.proofs.lines.lines_of_split_are_lines.Goals as goal

pub returns-clause-contents : goal.returns-clause-contents
returns-clause-contents c = contents_line

pub returns-clause-fault : goal.returns-clause-fault
returns-clause-fault c = list_fault_line

pub returns-clause-rest : goal.returns-clause-rest
returns-clause-rest c = rest_is_line

pub returns-clause-none : goal.returns-clause-none
returns-clause-none c = none_is_line

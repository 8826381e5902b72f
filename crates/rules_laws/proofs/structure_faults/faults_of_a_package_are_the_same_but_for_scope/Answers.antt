use Rattle.rules_laws.proofs.StructureLeastLemmas.{found_structure, told_structure}
use Rattle.rules_laws.proofs.structure_faults.faults_of_a_package_are_the_same_but_for_scope.Goals as goal

pub returns-clause-told : goal.returns-clause-told
returns-clause-told c = told_structure

pub returns-clause-found : goal.returns-clause-found
returns-clause-found c = found_structure

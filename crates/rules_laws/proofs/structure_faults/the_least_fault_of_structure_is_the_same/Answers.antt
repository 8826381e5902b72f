use Rattle.rules_laws.proofs.StructureLeastLemmas.{same_least_structure}
use Rattle.rules_laws.proofs.structure_faults.the_least_fault_of_structure_is_the_same.Goals as goal

pub returns : goal.returns
returns c = same_least_structure

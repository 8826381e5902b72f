use Rattle.rules_laws.proofs.StructureFaultLemmas.{same_structure_faults}
use Rattle.rules_laws.proofs.structure_faults.faults_of_structure_are_the_same.Goals as goal

pub returns : goal.returns
returns c = same_structure_faults

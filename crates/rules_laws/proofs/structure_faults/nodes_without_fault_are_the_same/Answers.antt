use Rattle.rules_laws.proofs.StructureLeastLemmas.{same_sound}
use Rattle.rules_laws.proofs.structure_faults.nodes_without_fault_are_the_same.Goals as goal

pub returns : goal.returns
returns c = same_sound

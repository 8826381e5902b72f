use Rattle.rules_laws.proofs.ReferenceFaultLemmas.{same_reference_faults}
use Rattle.rules_laws.proofs.reference_faults.faults_of_references_are_the_same.Goals as goal

pub returns : goal.returns
returns c = same_reference_faults

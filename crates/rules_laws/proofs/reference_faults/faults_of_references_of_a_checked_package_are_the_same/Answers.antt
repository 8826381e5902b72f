use Rattle.rules_laws.proofs.ReferenceFaultLemmas.{same_checked_faults}
use Rattle.rules_laws.proofs.reference_faults.faults_of_references_of_a_checked_package_are_the_same.Goals as goal

pub returns : goal.returns
returns c = same_checked_faults

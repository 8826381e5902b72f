use Rattle.rules_laws.proofs.StoreFaultLemmas.{same_image_faults}
use Rattle.rules_laws.proofs.store_faults.faults_of_an_image_are_the_same.Goals as goal

pub returns : goal.returns
returns c = same_image_faults

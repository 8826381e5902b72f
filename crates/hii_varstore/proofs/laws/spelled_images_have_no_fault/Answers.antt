use Rattle.hii_varstore.proofs.FaultLemmas.{no_fault}
use Rattle.hii_varstore.proofs.laws.spelled_images_have_no_fault.Goals as goal

pub returns : goal.returns
returns c = no_fault

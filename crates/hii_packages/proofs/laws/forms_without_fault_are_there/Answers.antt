use Rattle.hii_packages.proofs.ListLemmas.{there_without_fault}
use Rattle.hii_packages.proofs.laws.forms_without_fault_are_there.Goals as goal

pub returns : goal.returns
returns c = there_without_fault

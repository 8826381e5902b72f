use Rattle.hii_varstore.proofs.SpellLemmas.{spelled_without_fault}
use Rattle.hii_varstore.proofs.laws.images_without_fault_are_spelled.Goals as goal

pub returns : goal.returns
returns c = spelled_without_fault

use Rattle.rules_laws.proofs.ReferenceFaultLemmas.{whole_rule}
use Rattle.rules_laws.proofs.reference_faults.rules_of_a_checked_package_are_whole.Goals as goal

pub returns : goal.returns
returns c = whole_rule

use Rattle.session_laws.proofs.OpeningFaultLemmas.{same_least_opening}
use Rattle.session_laws.proofs.opening.the_least_fault_is_the_same.Goals as goal

pub returns : goal.returns
returns c = same_least_opening

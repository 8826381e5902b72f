use Rattle.session_laws.proofs.OpeningFaultLemmas.{same_sound_opening}
use Rattle.session_laws.proofs.opening.what_has_no_fault_is_the_same.Goals as goal

pub returns : goal.returns
returns c = same_sound_opening

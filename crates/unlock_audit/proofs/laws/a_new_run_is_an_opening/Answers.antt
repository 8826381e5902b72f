use Rattle.unlock_audit.proofs.SoundLemmas.{opens_anew}
use Rattle.unlock_audit.proofs.laws.a_new_run_is_an_opening.Goals as goal

pub returns : goal.returns
returns c = opens_anew

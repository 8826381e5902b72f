use Rattle.object_laws.proofs.UnlockLemmas.{unlock_back}
use Rattle.object_laws.proofs.unlock.objects_of_unlock_are_read_back.Goals as goal

pub returns : goal.returns
returns c = unlock_back

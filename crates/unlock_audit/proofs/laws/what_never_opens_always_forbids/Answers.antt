use Rattle.unlock_audit.proofs.NeverLemmas.{never_opens}
use Rattle.unlock_audit.proofs.laws.what_never_opens_always_forbids.Goals as goal

pub returns : goal.returns
returns c = never_opens

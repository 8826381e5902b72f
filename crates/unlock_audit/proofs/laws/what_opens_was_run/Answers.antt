use Rattle.unlock_audit.proofs.SoundLemmas.{found_again_opens, found_opens, written_opens}
use Rattle.unlock_audit.proofs.laws.what_opens_was_run.Goals as goal

pub returns-clause-found : goal.returns-clause-found
returns-clause-found c = found_opens

pub returns-clause-again : goal.returns-clause-again
returns-clause-again c = found_again_opens

pub returns-clause-written : goal.returns-clause-written
returns-clause-written c = written_opens

use Rattle.rules_laws.proofs.StoreLemmas.{bytes_same, written_same}
use Rattle.rules_laws.proofs.stores.stores_hold_what_the_chapters_say.Goals as goal

pub returns-clause-bytes : goal.returns-clause-bytes
returns-clause-bytes c = bytes_same

pub returns-clause-written : goal.returns-clause-written
returns-clause-written c = written_same

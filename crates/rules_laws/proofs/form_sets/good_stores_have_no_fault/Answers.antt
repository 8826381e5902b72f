use Rattle.rules_laws.proofs.GoodStoreLemmas.{stores_sound, stores_complete}
use Rattle.rules_laws.proofs.form_sets.good_stores_have_no_fault.Goals as goal

pub returns-clause-sound : goal.returns-clause-sound
returns-clause-sound c = stores_sound

pub returns-clause-complete : goal.returns-clause-complete
returns-clause-complete c = stores_complete

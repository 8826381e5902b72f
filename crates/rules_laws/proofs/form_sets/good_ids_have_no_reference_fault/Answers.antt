use Rattle.rules_laws.proofs.IdLemmas.{good_is_faultless, faultless_is_good}
use Rattle.rules_laws.proofs.form_sets.good_ids_have_no_reference_fault.Goals as goal

pub returns-clause-sound : goal.returns-clause-sound
returns-clause-sound c = good_is_faultless

pub returns-clause-complete : goal.returns-clause-complete
returns-clause-complete c = faultless_is_good

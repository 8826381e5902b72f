use Rattle.rules_laws.proofs.PackageLemmas.{accepted_where_good, stored_where_good, asked_where_good, good_where_accepted}
use Rattle.rules_laws.proofs.form_sets.good_packages_are_accepted.Goals as goal

pub returns-clause-accepted : goal.returns-clause-accepted
returns-clause-accepted c = accepted_where_good

pub returns-clause-stores : goal.returns-clause-stores
returns-clause-stores c = stored_where_good

pub returns-clause-questions : goal.returns-clause-questions
returns-clause-questions c = asked_where_good

pub returns-clause-good : goal.returns-clause-good
returns-clause-good c = good_where_accepted

use Rattle.rules_laws.proofs.NameableLemmas.{named_by_place}
use Rattle.rules_laws.proofs.form_sets.a_reference_names_the_last_rule_before_it.Goals as goal

pub returns : goal.returns
returns c = λ bytes n checked within is. named_by_place bytes n checked within

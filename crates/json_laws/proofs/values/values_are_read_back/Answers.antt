use Rattle.json_laws.proofs.ObjectLemmas.{number_back, signed_back, text_back, value_back}
use Rattle.json_laws.proofs.values.values_are_read_back.Goals as goal

pub returns-clause-text : goal.returns-clause-text
returns-clause-text c = text_back

pub returns-clause-natural : goal.returns-clause-natural
returns-clause-natural c = number_back

pub returns-clause-integer : goal.returns-clause-integer
returns-clause-integer c = signed_back

pub returns-clause-value : goal.returns-clause-value
returns-clause-value c = value_back

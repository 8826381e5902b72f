use Rattle.condition_text.proofs.SenseValueLemmas.{value_said, one_value}
use Rattle.condition_text.proofs.laws.what_is_said_decides_the_value.Goals as goal

pub returns-clause-value : goal.returns-clause-value
returns-clause-value c = value_said

pub returns-clause-texts : goal.returns-clause-texts
returns-clause-texts c = one_value

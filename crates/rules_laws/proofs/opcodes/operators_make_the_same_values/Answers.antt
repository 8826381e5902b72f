use Rattle.rules_laws.proofs.OpcodeValueLemmas.{same_of_none, same_of_one, same_of_two}
use Rattle.rules_laws.proofs.opcodes.operators_make_the_same_values.Goals as goal

pub returns-clause-of_none : goal.returns-clause-of_none
returns-clause-of_none c = same_of_none

pub returns-clause-of_one : goal.returns-clause-of_one
returns-clause-of_one c = same_of_one

pub returns-clause-of_two : goal.returns-clause-of_two
returns-clause-of_two c = same_of_two

use Rattle.rules_laws.proofs.OpcodeSmallLemmas.{small_of_none, small_of_one, small_of_two}
use Rattle.rules_laws.proofs.opcodes.operators_make_small_values.Goals as goal

pub returns-clause-of_none : goal.returns-clause-of_none
returns-clause-of_none c = small_of_none

pub returns-clause-of_one : goal.returns-clause-of_one
returns-clause-of_one c = small_of_one

pub returns-clause-of_two : goal.returns-clause-of_two
returns-clause-of_two c = small_of_two

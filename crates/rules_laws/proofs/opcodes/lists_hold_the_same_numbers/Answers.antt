use Rattle.rules_laws.proofs.OpcodeListLemmas.{listed_same}
use Rattle.rules_laws.proofs.opcodes.lists_hold_the_same_numbers.Goals as goal

pub returns : goal.returns
returns c = listed_same

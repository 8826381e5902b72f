use Rattle.ifr_opcodes.specs.Opcode.{number}
use Rattle.ifr_opcodes.proofs.RowLemmas.{operator_same}
use Rattle.rules_laws.proofs.opcodes.operators_take_operands.Goals as goal

pub returns : goal.returns
returns c = λ op. operator_same (number op)

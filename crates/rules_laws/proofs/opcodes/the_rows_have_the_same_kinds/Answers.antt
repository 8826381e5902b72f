use Rattle.ifr_opcodes.specs.Opcode.{number}
use Rattle.rules_laws.proofs.OpcodeScopeLemmas.{option_same, default_same, guard_same}
use Rattle.rules_laws.proofs.opcodes.the_rows_have_the_same_kinds.Goals as goal

pub returns-clause-options : goal.returns-clause-options
returns-clause-options c = λ op. option_same (number op)

pub returns-clause-defaults : goal.returns-clause-defaults
returns-clause-defaults c = λ op. default_same (number op)

pub returns-clause-guards : goal.returns-clause-guards
returns-clause-guards c = λ op. guard_same (number op)

use Rattle.ifr_opcodes.specs.Opcode.{number}
use Rattle.rules_laws.proofs.OpcodeScopeLemmas.{value_wanted_same, wanted_same}
use Rattle.rules_laws.proofs.opcodes.the_rows_begin_their_scopes_alike.Goals as goal

pub returns-clause-expressions : goal.returns-clause-expressions
returns-clause-expressions c = λ op. wanted_same (number op)

pub returns-clause-values : goal.returns-clause-values
returns-clause-values c = value_wanted_same

use Rattle.std.proofs.Common.{refl}
use Rattle.rules_laws.proofs.OpcodeScopeLemmas.{admits_same, inside_same}
use Rattle.rules_laws.proofs.opcodes.the_rows_admit_the_same_opcodes.Goals as goal

pub returns-clause-admitted : goal.returns-clause-admitted
returns-clause-admitted c = admits_same

pub returns-clause-outside : goal.returns-clause-outside
returns-clause-outside c = refl

pub returns-clause-inside : goal.returns-clause-inside
returns-clause-inside c = inside_same

use Rattle.rules_laws.proofs.OpcodeExpressionLemmas.{holds_same, opcodes_same, value_same}
use Rattle.rules_laws.proofs.opcodes.expressions_have_the_same_values.Goals as goal

pub returns-clause-opcodes : goal.returns-clause-opcodes
returns-clause-opcodes c = opcodes_same

pub returns-clause-values : goal.returns-clause-values
returns-clause-values c = value_same

pub returns-clause-holding : goal.returns-clause-holding
returns-clause-holding c = holds_same

use Rattle.rules_laws.proofs.OpcodeScopeLemmas.{wrong_same}
use Rattle.rules_laws.proofs.opcodes.the_rows_have_wrong_scopes_alike.Goals as goal

pub returns : goal.returns
returns c = wrong_same

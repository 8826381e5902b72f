use Rattle.ifr_index.proofs.PathLemmas.{statements_of}
use Rattle.ifr_scopes.proofs.laws.statements_are_nodes.Goals as goal

pub returns : goal.returns
returns c = λ bytes form accepted is. statements_of bytes form accepted.checked.spelled is

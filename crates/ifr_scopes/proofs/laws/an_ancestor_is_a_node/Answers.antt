use Rattle.ifr_nodes.proofs.ScopeLemmas.{ancestor_node}
use Rattle.ifr_scopes.proofs.laws.an_ancestor_is_a_node.Goals as goal

pub returns : goal.returns
returns c = λ bytes n before after a accepted is e. ancestor_node bytes n before after a accepted.checked.spelled is e

use Rattle.ifr_nodes.proofs.ViewLemmas.{contains_found}
use Rattle.ifr_index.proofs.PathLemmas.{own_guards, own_lock}
use Rattle.ifr_nodes.specs.Nodes.{nodes_of}
use Rattle.ifr_scopes.proofs.laws.guards_and_locks_are_found.Goals as goal

pub returns-clause-guards : goal.returns-clause-guards
returns-clause-guards c = λ bytes n accepted is indexed. own_guards bytes n accepted.checked.spelled (contains_found (nodes_of bytes) n.place n is) indexed

pub returns-clause-lock : goal.returns-clause-lock
returns-clause-lock c = λ bytes n accepted is indexed. own_lock bytes n accepted.checked.spelled (contains_found (nodes_of bytes) n.place n is) indexed

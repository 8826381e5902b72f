use Rattle.ifr_opcodes.specs.Reading.{tree_of}
use Rattle.ifr_nodes.proofs.NodeFactLemmas.{is_node}
use Rattle.ifr_nodes.proofs.PlaceLemmas.{is_found}
use Rattle.ifr_scopes.specs.code.Lists.{statement_node}
use Rattle.ifr_scopes.proofs.laws.a_statement_is_a_node.Goals as goal

pub returns : goal.returns
returns c = λ statement.
    let bytes = statement.node.ifr.now in
    let within = is_node bytes statement.node.op.place _ statement.node.checked statement.node.stands in
    is_found bytes (tree_of bytes) (statement_node statement) statement.node.checked.spelled within

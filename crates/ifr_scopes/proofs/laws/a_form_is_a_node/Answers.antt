use Rattle.ifr_opcodes.specs.Reading.{tree_of}
use Rattle.ifr_nodes.proofs.NodeFactLemmas.{is_node}
use Rattle.ifr_nodes.proofs.PlaceLemmas.{is_found}
use Rattle.ifr_scopes.specs.code.Lists.{form_node}
use Rattle.ifr_scopes.proofs.laws.a_form_is_a_node.Goals as goal

pub returns : goal.returns
returns c = λ form.
    let bytes = form.node.ifr.now in
    let within = is_node bytes form.node.op.place _ form.node.checked form.node.stands in
    is_found bytes (tree_of bytes) (form_node form) form.node.checked.spelled within

use Rattle.std.proofs.Common.{arith}
use Rattle.ifr_opcodes.specs.Reading.{tree_of}
use Rattle.ifr_nodes.proofs.NodeFactLemmas.{is_node}
use Rattle.ifr_nodes.proofs.PlaceLemmas.{few_statements}
use Rattle.ifr_scopes.specs.code.Lists.{form_node}
use Rattle.ifr_scopes.proofs.laws.statements_are_few.Goals as goal

pub returns : goal.returns
returns c = λ form.
    let bytes = form.node.ifr.now in
    let within = is_node bytes form.node.op.place _ form.node.checked form.node.stands in
    let small = form.node.checked.small in
    omega (arith, few_statements bytes (tree_of bytes) (form_node form) form.node.checked.spelled within, small)

use Rattle.std.proofs.Common.{ap, ◌∙◌}
use Rattle.ifr_nodes.specs.code.Walking.{nodes_left}
use Rattle.ifr_nodes.proofs.WalkLemmas.{at_first, few_left}
use Rattle.ifr_nodes.proofs.walk.Walk.over.Goals as goal

pub invariant_of-result : goal.invariant_of-result
invariant_of-result c =
    let k = at_first c.args.bytes.now c.requires.header c.requires.small c.requires.spelled in
    record { walking = rw c.new.ensures k.0 }

pub returns-clause-nodes : goal.returns-clause-nodes
returns-clause-nodes c =
    let k = at_first c.args.bytes.now c.requires.header c.requires.small c.requires.spelled in
    ap (nodes_left c.args.bytes.now 4) c.new.ensures ∙ k.1

pub returns-clause-few : goal.returns-clause-few
returns-clause-few c = few_left c.args.bytes.now 4 c.new.result.items (rw c.new.ensures (at_first c.args.bytes.now c.requires.header c.requires.small c.requires.spelled).0)

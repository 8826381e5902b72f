use Rattle.std.proofs.Common.{◌∷◌, ◌++◌, [], map, ap, sym, ◌∙◌}
use Rattle.ifr_opcodes.specs.code.Marks.{mark}
use Rattle.ifr_opcodes.specs.Forest.{as_ancestor}
use Rattle.ifr_nodes.specs.code.Visits.{under}
use Rattle.ifr_nodes.specs.code.Walking.{nodes_left}
use Rattle.ifr_nodes.proofs.NodeLemmas.{marks_under}
use Rattle.ifr_nodes.proofs.WalkLemmas.{at_inside, whole_there, some_node, few_left}
use Rattle.ifr_nodes.proofs.walk.Walk.inside.Goals as goal

pub inner_start-requires : goal.inner_start-requires
inner_start-requires c =
    let n = some_node _ c.requires.there in
    whole_there c.args.bytes.now c.args.place n.0 c.requires.spelled n.1

pub invariant_of-result : goal.invariant_of-result
invariant_of-result c =
    let n = some_node _ c.requires.there in
    let k = at_inside c.args.bytes.now c.args.place c.inner_start.result n.0 c.requires.small c.requires.spelled n.1 c.inner_start.ensures in
    record { walking = rw c.new.ensures k.0 }

pub returns-clause-nodes : goal.returns-clause-nodes
returns-clause-nodes c = λ n e.
    let k = at_inside c.args.bytes.now c.args.place c.inner_start.result n c.requires.small c.requires.spelled e c.inner_start.ensures in
    k.1 ∙ ap (λ l. map (under (n.path ++ as_ancestor n ∷ [])) (nodes_left c.args.bytes.now c.inner_start.result l)) (sym c.new.ensures)

pub returns-clause-sights : goal.returns-clause-sights
returns-clause-sights c = λ n e.
    let k = at_inside c.args.bytes.now c.args.place c.inner_start.result n c.requires.small c.requires.spelled e c.inner_start.ensures in
    ap (λ l. map mark (nodes_left c.args.bytes.now c.inner_start.result l)) c.new.ensures
    ∙ sym (ap (map mark) k.1 ∙ marks_under (n.path ++ as_ancestor n ∷ []) (nodes_left c.args.bytes.now c.inner_start.result []))

pub returns-clause-few : goal.returns-clause-few
returns-clause-few c =
    let n = some_node _ c.requires.there in
    let k = at_inside c.args.bytes.now c.args.place c.inner_start.result n.0 c.requires.small c.requires.spelled n.1 c.inner_start.ensures in
    few_left c.args.bytes.now c.inner_start.result c.new.result.items (rw c.new.ensures k.0)

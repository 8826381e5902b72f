use Rattle.std.proofs.Common.{◌∷◌, [], ◌++◌, map, sym, ap, ◌∙◌, subst}
use Rattle.std.specs.Prelude.{Contains}
use Rattle.ifr_opcodes.specs.Forest.{as_ancestor, below}
use Rattle.ifr_opcodes.specs.Reading.{tree_of}
use Rattle.ifr_nodes.specs.Checked.{IsChecked}
use Rattle.ifr_nodes.specs.code.Checked.{AreAt, node_in}
use Rattle.ifr_nodes.specs.code.Visits.{left}
use Rattle.ifr_nodes.proofs.ViewLemmas.{node_there, all_under, are_under, below_within}
use Rattle.ifr_nodes.proofs.nodes.Nodes.inside.Goals as goal

pub invariant_of-result : goal.invariant_of-result
invariant_of-result c =
    let node = c.args.node in
    let bytes = node.ifr.now in
    let there = node_there bytes node.op.place _ node.checked.spelled node.stands in
    let is = c.inside.ensures.nodes there.0 there.1 in
    let path = there.0.path ++ as_ancestor there.0 ∷ [] in
    record {
      checked = subst IsChecked (sym c.inside.ensures.kept) node.checked;
      stand = subst (λ b. AreAt b (left c.inside.result)) (sym c.inside.ensures.kept)
          (are_under bytes path (left c.inside.result) node.checked.spelled (λ m w. below_within (tree_of bytes) 4 [] there.0 m there.2 (subst (λ l. Contains l m) (sym is) w)));
    }

pub returns : goal.returns
returns c =
    let node = c.args.node in
    let bytes = node.ifr.now in
    let there = node_there bytes node.op.place _ node.checked.spelled node.stands in
    let is = c.inside.ensures.nodes there.0 there.1 in
    let path = there.0.path ++ as_ancestor there.0 ∷ [] in
    ap (λ b. map (λ n. node_in b n.place) (left c.inside.result)) c.inside.ensures.kept
    ∙ all_under bytes path (left c.inside.result) node.checked.spelled (λ m w. below_within (tree_of bytes) 4 [] there.0 m there.2 (subst (λ l. Contains l m) (sym is) w))
    ∙ sym is ∙ ap below (sym there.3)

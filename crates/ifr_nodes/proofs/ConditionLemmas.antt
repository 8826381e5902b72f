-- The expression with which a node begins stands right behind the node's opcode.
use Rattle.std.proofs.Common.{◌≡◌, ℕ, ◌+◌, ◌<◌, ◌≤◌, true, Some, None, List, [], ◌∷◌, ◌++◌, length, slice_range, sym, ap, ◌∙◌, subst, arith, length-append}
use Rattle.std.specs.Prelude.{Contains}
use Rattle.std.proofs.lemmas.Bool.{cond-true}
use Rattle.std.proofs.lemmas.List.{length-drop}
use Rattle.hii_bytes.specs.Faults.{HasNone}
use Rattle.ifr_opcodes.specs.Opcode.{number}
use Rattle.ifr_opcodes.specs.Forest.{none, node, flat, Node, as_ancestor}
use Rattle.ifr_opcodes.specs.Reading.{tree_of}
use Rattle.ifr_opcodes.proofs.ForestLemmas.{takes}
use Rattle.ifr_expr.specs.Trees.{Tree, Means, expression}
use Rattle.ifr_expr.specs.code.Bytes.{opcodes_of}
use Rattle.ifr_expr.specs.Reading.{tree_of_opcodes, tree_in}
use Rattle.ifr_expr.specs.Faults.{IsExpressionFault}
use Rattle.ifr_expr.proofs.TreeLemmas.{is_tree_of}
use Rattle.ifr_nodes.specs.Nodes.{nodes_of, end_of}
use Rattle.ifr_nodes.specs.Table.{wants_expression, wants_value}
use Rattle.ifr_nodes.specs.NodeExpressions.{expression_tree, tree_of_value, value_tree}
use Rattle.ifr_nodes.specs.Checked.{IsChecked}
use Rattle.ifr_nodes.specs.code.Checked.{IsAt, node_in, has_node}
use Rattle.ifr_nodes.specs.code.Ends.{first_end, expression_end}
use Rattle.ifr_nodes.proofs.ExpressionLemmas.{StandsFrom, stands_from}
use Rattle.ifr_nodes.proofs.PlaceLemmas.{node_stands}
use Rattle.ifr_nodes.proofs.ViewLemmas.{is_at, node_in_place}
use Rattle.ifr_nodes.proofs.NodeFactLemmas.{HasCondition, has_condition, HasValue, has_value, is_node}

-- A node stands at a place, whose expression has no fault and is that with which another begins.
pub record Begins (bytes : List ℕ) (outer : Node) (from : ℕ) : Type 0 where
  pub node : Node
  pub there : has_node bytes from ≡ true
  pub stands : StandsFrom bytes node from (end_of (node_in bytes from))
  pub sound : HasNone (IsExpressionFault from (expression node.place node.op node.children))
  pub tree : tree_in (outer.place + length outer.op) outer.children ≡ tree_of_opcodes (expression node.place node.op node.children)
  pub inside : from < length bytes
  pub ends : end_of (node_in bytes from) ≡ expression_end outer

-- a node lies inside of the package
pub place_below : (bytes : List ℕ) (n : Node) → IsChecked bytes → Contains (nodes_of bytes) n → n.place < length bytes
place_below bytes n checked within =
    let s = node_stands bytes (tree_of bytes) n checked.spelled within in
    let long : 2 ≤ length n.op = s.2.0.whole.long in
    let size = takes n.op n.children none s.2 in
    omega (arith, long, size.0, ap (λ (l : List ℕ). length l) s.1, length-drop n.place bytes, length-append (flat (node n.op n.children none)) s.0)

begins_here : (bytes : List ℕ) (n : Node) (h : HasCondition bytes n) → IsChecked bytes → Begins bytes n (n.place + length n.op)
unfolding expression_end
begins_here bytes n h checked =
    let from : ℕ = n.place + length n.op in
    let child : Node = record { place = from; op = h.op; path = n.path ++ as_ancestor n ∷ []; children = h.children } in
    let same : node_in bytes from ≡ child = node_in_place bytes child checked.spelled h.within in
    record {
      node = child;
      there = (is_at bytes child checked.spelled h.within).there;
      stands = stands_from bytes (tree_of bytes) child from (end_of (node_in bytes from)) checked.spelled h.within h.operator (λ i. from) (ap end_of same);
      sound = h.sound;
      tree = ap (tree_in from) h.first;
      inside = place_below bytes child checked h.within;
      ends = ap end_of same ∙ sym (ap (first_end from) h.first);
    }

pub begins_at : (bytes : List ℕ) (place : ℕ) (op : List ℕ) (from : ℕ) → IsChecked bytes → IsAt bytes place op → wants_expression (number (node_in bytes place).op) ≡ true → from ≡ place + length op → Begins bytes (node_in bytes place) from
begins_at bytes place op from checked at wants is =
    let n = node_in bytes place in
    let h = has_condition bytes n checked (is_node bytes place op checked at) wants in
    let here : n.place + length n.op ≡ from = omega (arith, at.placed, ap (λ (l : List ℕ). length l) at.opcode, is) in
    subst (Begins bytes n) here (begins_here bytes n h checked)

-- the tree of the expression is that of the outer node's scope
pub is_its_tree : (bytes : List ℕ) (outer : Node) (from : ℕ) (b : Begins bytes outer from) (tree : Tree) → Means (opcodes_of from (slice_range bytes from (end_of (node_in bytes from)))) tree → tree ≡ tree_in (outer.place + length outer.op) outer.children
is_its_tree bytes outer from b tree means =
    sym (is_tree_of (opcodes_of from (slice_range bytes from (end_of (node_in bytes from)))) tree means) ∙ ap tree_of_opcodes b.stands.opcodes ∙ sym b.tree

-- ---- the VALUE with which a node begins

-- A VALUE stands behind the node's opcode, and its expression is the node's value.
pub record StandsValue (bytes : List ℕ) (n : Node) (from : ℕ) : Type 0 where
  pub there : has_node bytes from ≡ true
  pub inside : from < length bytes
  pub wants : wants_expression (number (node_in bytes from).op) ≡ true
  pub tree : Some (expression_tree (node_in bytes from)) ≡ value_tree n

value_there : (bytes : List ℕ) (n : Node) → IsChecked bytes → (wants : wants_value n.op ≡ true) → HasValue bytes n → StandsValue bytes n (n.place + length n.op)
value_there bytes n checked wants h =
    let from : ℕ = n.place + length n.op in
    let child : Node = record { place = from; op = h.op; path = n.path ++ as_ancestor n ∷ []; children = h.children } in
    let same : node_in bytes from ≡ child = node_in_place bytes child checked.spelled h.within in
    record {
      there = (is_at bytes child checked.spelled h.within).there;
      inside = place_below bytes child checked h.within;
      wants = ap (λ (m : Node). wants_expression (number m.op)) same ∙ ap wants_expression h.is_value;
      tree = ap (λ (m : Node). Some (expression_tree m)) same ∙ sym (ap (tree_of_value from) h.first) ∙ sym (cond-true (wants_value n.op) (tree_of_value from n.children) None wants);
    }

pub value_at : (bytes : List ℕ) (n : Node) (from : ℕ) → IsChecked bytes → Contains (nodes_of bytes) n → wants_value n.op ≡ true → n.place + length n.op ≡ from → StandsValue bytes n from
value_at bytes n from checked within wants here = subst (StandsValue bytes n) here (value_there bytes n checked wants (has_value bytes n checked within wants))

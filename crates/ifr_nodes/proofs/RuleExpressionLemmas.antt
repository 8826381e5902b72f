-- The expression of a rule stands between the rule's opcode and the END of its scope.
use Rattle.std.proofs.Common.{◌≡◌, ℕ, ◌+◌, ◌-◌, ◌≤◌, true, List, [], ◌∷◌, ◌++◌, append_assoc, length, take, drop, slice_range, refl, sym, ap, ◌∙◌, subst, arith, inl, inr}
use Rattle.std.specs.Prelude.{Contains}
use Rattle.std.specs.List.{concat}
use Rattle.std.proofs.lemmas.List.{append-nil, length-append, length-drop, drop-drop, drop_at, take_at}
use Rattle.std.proofs.lemmas.Bool.{cases_Bool}
use Rattle.hii_bytes.specs.Faults.{HasNone}
use Rattle.ifr_opcodes.specs.Opcode.{number, has_scope, end}
use Rattle.ifr_opcodes.specs.Rows.{is_operator}
use Rattle.ifr_opcodes.specs.Forest.{Forest, none, node, opcodes, flat, AreNodes, Mark, Node}
use Rattle.ifr_opcodes.specs.Reading.{tree_of}
use Rattle.ifr_opcodes.proofs.OpcodeLemmas.{concat-append}
use Rattle.ifr_opcodes.proofs.ForestLemmas.{opcodes_scoped}
use Rattle.ifr_expr.specs.Faults.{IsExpressionFault}
use Rattle.ifr_expr.specs.code.Bytes.{opcodes_of}
use Rattle.ifr_expr.specs.Reading.{tree_of_opcodes, tree_in}
use Rattle.ifr_expr.specs.Trees.{Tree, Means, expression}
use Rattle.ifr_expr.proofs.NodeLemmas.{opcodes_are}
use Rattle.ifr_expr.proofs.TreeLemmas.{is_tree_of}
use Rattle.ifr_nodes.specs.Checked.{IsChecked}
use Rattle.ifr_nodes.specs.Nodes.{nodes_of, end_of}
use Rattle.ifr_nodes.specs.Rules.{is_rule, expression_place}
use Rattle.ifr_nodes.proofs.ConditionLemmas.{place_below}
use Rattle.ifr_nodes.proofs.PlaceLemmas.{node_stands}
use Rattle.ifr_nodes.proofs.RuleFacts.{rule_fact}

-- A rule's expression stands at a range of the package.
pub record Holds (bytes : List ℕ) (n : Node) (from to : ℕ) : Type 0 where
  pub op : List ℕ
  pub inner : Forest
  pub ordered : from ≤ to
  pub ends : to + 2 ≡ end_of n
  pub within : end_of n ≤ length bytes
  pub are_nodes : AreNodes (node op inner none)
  pub operator : is_operator (number op) ≡ true
  pub bytes_there : slice_range bytes from to ≡ flat (node op inner none)
  pub sound : HasNone (IsExpressionFault from (expression from op inner))
  pub tree : tree_in (expression_place n) n.children ≡ tree_of_opcodes (expression from op inner)

some_children : (op : List ℕ) (inner : Forest) → node op inner none ≡ none → ⊥
some_children op inner e = absurd cc

pub holds : (bytes : List ℕ) (n : Node) → IsChecked bytes → Contains (nodes_of bytes) n → is_rule n ≡ true → Holds bytes n (expression_place n) (end_of n - 2)
holds bytes n checked within is =
    let fact = rule_fact bytes n checked within is in
    let stood = node_stands bytes (tree_of bytes) n checked.spelled within in
    let op = fact.op in
    let inner = fact.inner in
    let from : ℕ = expression_place n in
    let scoped : has_scope n.op ≡ true = elim (cases_Bool (has_scope n.op)) [
      | inl s ↦ s
      | inr s ↦ absurd (some_children op inner (sym fact.children ∙ stood.2.0.leaf s))
    ] in
    let same : opcodes (node n.op n.children none) ≡ n.op ∷ (opcodes n.children ++ end ∷ []) = sym (append-nil (opcodes (node n.op n.children none))) ∙ opcodes_scoped n.op n.children none [] scoped in
    let flat_node : flat (node n.op n.children none) ≡ n.op ++ (flat n.children ++ end) = ap concat same ∙ ap (λ (l : List ℕ). n.op ++ l) (concat-append (opcodes n.children) (end ∷ [])) in
    let size : length (flat (node n.op n.children none)) ≡ length n.op + (length (flat n.children) + 2) =
    ap (λ (l : List ℕ). length l) flat_node ∙ length-append n.op (flat n.children ++ end) ∙ ap (λ (k : ℕ). length n.op + k) (length-append (flat n.children) end) in
    let split : drop n.place bytes ≡ n.op ++ (flat n.children ++ (end ++ stood.0)) =
    stood.1 ∙ ap (λ (l : List ℕ). l ++ stood.0) flat_node ∙ append_assoc n.op (flat n.children ++ end) stood.0 ∙ ap (λ (l : List ℕ). n.op ++ l) (append_assoc (flat n.children) end stood.0) in
    let behind : drop from bytes ≡ flat n.children ++ (end ++ stood.0) =
    sym (drop-drop (length n.op) n.place bytes) ∙ ap (drop (length n.op)) split ∙ drop_at n.op (flat n.children ++ (end ++ stood.0)) (length n.op) refl in
    let gap : end_of n - 2 - from ≡ length (flat n.children) = omega (arith, size) in
    let all = ap (λ (l : List ℕ). length l) stood.1 ∙ length-append (flat (node n.op n.children none)) stood.0 in
    record {
      op = op;
      inner = inner;
      ordered = omega (arith, size);
      ends = omega (arith, size);
      within = omega (arith, size, all, length-drop n.place bytes, place_below bytes n checked within);
      are_nodes = subst AreNodes fact.children stood.2.1.0;
      operator = fact.operator;
      bytes_there = ap (λ (k : ℕ). take k (drop from bytes)) gap ∙ ap (take (length (flat n.children))) behind ∙ take_at (flat n.children) (end ++ stood.0) (length (flat n.children)) refl ∙ ap flat fact.children;
      sound = fact.sound;
      tree = ap (tree_in from) fact.children;
    }

pub none_there : (bytes : List ℕ) (n : Node) (from to : ℕ) → (h : Holds bytes n from to) → HasNone (IsExpressionFault from (opcodes_of from (slice_range bytes from to)))
none_there bytes n from to h = subst (λ (l : List Mark). HasNone (IsExpressionFault from l)) (sym (opcodes_are from (slice_range bytes from to) h.op h.inner h.are_nodes h.bytes_there)) h.sound

pub is_its_tree : (bytes : List ℕ) (n : Node) (from to : ℕ) (h : Holds bytes n from to) (tree : Tree) → Means (opcodes_of from (slice_range bytes from to)) tree → tree ≡ tree_in (expression_place n) n.children
is_its_tree bytes n from to h tree means =
    sym (is_tree_of (opcodes_of from (slice_range bytes from to)) tree means) ∙ ap tree_of_opcodes (opcodes_are from (slice_range bytes from to) h.op h.inner h.are_nodes h.bytes_there) ∙ sym h.tree

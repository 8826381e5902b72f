-- The opcodes of a rule's expression are those of the nodes below the rule, and so are its references.
use Rattle.std.proofs.Common.{◌≡◌, ℕ, ◌+◌, ◌≤◌, true, false, eqb, List, [], ◌∷◌, ◌++◌, length, map, refl, sym, ap, ◌∙◌, subst, inl, inr, arith}
use Rattle.std.specs.Prelude.{Contains, filter, ◌==◌, not}
use Rattle.std.proofs.lemmas.Bool.{cases_Bool, ne_eqb, and_from, not_from_false}
use Rattle.std.proofs.lemmas.List.{append-nil, length-map}
use Rattle.hii_bytes.specs.Faults.{HasNone}
use Rattle.hii_bytes.specs.declared.cause.Cause.TheVariants.{ScopeBit}
use Rattle.ifr_opcodes.specs.declared.codes.TheConstants.{RULE_REF}
use Rattle.ifr_opcodes.specs.Fields.{rule_ref_rule}
use Rattle.ifr_opcodes.specs.Opcode.{number, has_scope}
use Rattle.ifr_opcodes.specs.Rows.{is_operator}
use Rattle.ifr_opcodes.specs.Forest.{Forest, none, node, flat, AreNodes, Mark, Ancestor, Node, as_ancestor, nodes_at, below}
use Rattle.ifr_opcodes.specs.Reading.{tree_of}
use Rattle.ifr_opcodes.specs.code.Marks.{mark}
use Rattle.ifr_expr.specs.Faults.{IsExpressionFault}
use Rattle.ifr_expr.specs.Reading.{tree_in, tree_of_opcodes}
use Rattle.ifr_expr.specs.References.{references, references_among}
use Rattle.ifr_expr.specs.Trees.{post, siblings, expression}
use Rattle.ifr_expr.specs.code.Bytes.{opcodes_of}
use Rattle.ifr_expr.specs.code.Checked.{tree}
use Rattle.ifr_expr.specs.declared.references.RuleReference.{RuleReference}
use Rattle.ifr_expr.proofs.CheckLemmas.{done_where_sound, means_node}
use Rattle.ifr_expr.proofs.NodeLemmas.{is_expression_node, opcodes_are}
use Rattle.ifr_expr.proofs.TreeLemmas.{is_tree_of}
use Rattle.ifr_nodes.specs.Checked.{IsChecked}
use Rattle.ifr_nodes.specs.Nodes.{nodes_of}
use Rattle.ifr_nodes.specs.Rules.{is_rule, as_rule, expression_place}
use Rattle.ifr_nodes.proofs.BehindLemmas.{siblings_inside}
use Rattle.ifr_nodes.proofs.PlaceLemmas.{node_stands}
use Rattle.ifr_nodes.proofs.RuleFacts.{rule_fact}
use Rattle.ifr_nodes.proofs.ViewLemmas.{further}
use Rattle.rules_laws.specs.laws.Naming.{is_rule_reference, references_in}

-- ---- nodes of which none has a scope

abbrev marks : List Node → List Mark
marks ns = map (λ (n : Node). mark n) ns

alone : (f : Forest) (at : ℕ) (path : List Ancestor) → AreNodes f → ((m : Mark) → Contains (siblings at f) m → has_scope m.op ≡ false) → marks (nodes_at at path f) ≡ siblings at f
alone none at path h bare = refl
alone (node op children rest) at path h bare =
    let here : Ancestor = record { place = at; op = op; children = children } in
    let behind : ℕ = at + length (flat (node op children none)) in
    let first : Mark = record { place = at; op = op } in
    let empty : children ≡ none = h.0.leaf (bare first (0, omega arith, refl)) in
    ap (λ (f : Forest). first ∷ marks (nodes_at (at + length op) (path ++ here ∷ []) f ++ nodes_at behind path rest)) empty
    ∙ ap (λ (l : List Mark). first ∷ l) (alone rest behind path h.1.1 (λ m w. bare m (further first (siblings behind rest) m w)))

-- ---- the opcodes below a rule

-- an expression without fault is spelled by the opcodes of its tree
spelled : (from : ℕ) (op : List ℕ) (inner : Forest) → AreNodes (node op inner none) → is_operator (number op) ≡ true → HasNone (IsExpressionFault from (expression from op inner)) → post (tree_of_opcodes (expression from op inner)) ≡ expression from op inner
spelled from op inner h operator sound =
    let there = flat (node op inner none) in
    let same : opcodes_of from there ≡ expression from op inner = opcodes_are from there op inner h refl in
    let clear = subst (λ (l : List Mark). HasNone (IsExpressionFault from l)) (sym same) sound in
    let means = means_node from there (done_where_sound from there (is_expression_node there op inner h refl operator) clear) in
    ap (λ (l : List Mark). post (tree_of_opcodes l)) (sym same) ∙ ap post (is_tree_of (opcodes_of from there) (tree from there) means) ∙ means.spelled ∙ same

-- no opcode of it but its own opens a scope
no_scope : (from : ℕ) (op : List ℕ) (inner : Forest) → AreNodes (node op inner none) → HasNone (IsExpressionFault from (expression from op inner)) → (m : Mark) → Contains (siblings (from + length op) inner) m → has_scope m.op ≡ false
no_scope from op inner h sound m within = elim (cases_Bool (has_scope m.op)) [
  | inr bare ↦ bare
  | inl scoped ↦
      let i = siblings_inside inner (from + length op) m h.1.0 within in
      let long : 2 ≤ length op = h.0.whole.long in
      let past : eqb m.place from ≡ false = ne_eqb m.place from (λ e. omega (arith, i.0, long, e)) in
      let first : Mark = record { place = from; op = op } in
      absurd (sound ScopeBit m.place (inl (m, further first (siblings (from + length op) inner) m within, refl, and_from (has_scope m.op) (not (m.place == from)) scoped (not_from_false (m.place == from) past))))
]

pub opcodes_below : (bytes : List ℕ) (n : Node) → IsChecked bytes → Contains (nodes_of bytes) n → is_rule n ≡ true → post (as_rule n).tree ≡ marks (below n)
opcodes_below bytes n checked within is =
    let fact = rule_fact bytes n checked within is in
    let op = fact.op in
    let from : ℕ = expression_place n in
    let h : AreNodes (node op fact.inner none) = subst AreNodes fact.children (node_stands bytes (tree_of bytes) n checked.spelled within).2.1.0 in
    let path = n.path ++ as_ancestor n ∷ [] in
    let first : Ancestor = record { place = from; op = op; children = fact.inner } in
    let inner = nodes_at (from + length op) (path ++ first ∷ []) fact.inner in
    let own : Mark = record { place = from; op = op } in
    let all : marks (below n) ≡ own ∷ marks inner = ap (λ (f : Forest). marks (nodes_at from path f)) fact.children ∙ ap (λ (l : List Node). own ∷ marks l) (append-nil inner) in
    ap (λ (f : Forest). post (tree_in from f)) fact.children
    ∙ spelled from op fact.inner h fact.operator fact.sound
    ∙ ap (λ (l : List Mark). own ∷ l) (sym (alone fact.inner (from + length op) (path ++ first ∷ []) h.1.0 (no_scope from op fact.inner h fact.sound)))
    ∙ sym all

-- ---- the references

abbrev pub reference_at : Node → RuleReference
reference_at n = record { id = rule_ref_rule n.op; place = n.place }

of_nodes : (ns : List Node) → references_among (marks ns) ≡ map reference_at (filter is_rule_reference ns)
of_nodes [] = refl
of_nodes (n ∷ ns) = elim (cases_Bool (eqb (number n.op) RULE_REF)) [
  | inl is ↦ rw is (ap (λ (l : List RuleReference). reference_at n ∷ l) (of_nodes ns))
  | inr other ↦ rw other (of_nodes ns)
]

pub references_are : (bytes : List ℕ) (n : Node) → IsChecked bytes → Contains (nodes_of bytes) n → is_rule n ≡ true → references (as_rule n).tree ≡ map reference_at (references_in n)
references_are bytes n checked within is = ap references_among (opcodes_below bytes n checked within is) ∙ of_nodes (below n)

pub how_many : (bytes : List ℕ) (n : Node) → IsChecked bytes → Contains (nodes_of bytes) n → is_rule n ≡ true → length (post (as_rule n).tree) ≡ length (below n)
how_many bytes n checked within is = ap (λ (l : List Mark). length l) (opcodes_below bytes n checked within is) ∙ length-map (below n) (λ (m : Node). mark m)

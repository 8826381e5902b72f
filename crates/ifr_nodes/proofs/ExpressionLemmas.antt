-- The faults of an expression, and those of its nodes.
use Rattle.std.proofs.Common.{◌≡◌, ◌⊎◌, ℕ, zero, suc, ◌+◌, ◌-◌, ◌<◌, ◌≤◌, true, false, Option, Some, None, List, [], ◌∷◌, ◌++◌, length, take, drop, slice_range, refl, sym, ap, subst, ◌∙◌, arith, inl, inr, lit≤, length-append}
use Rattle.std.specs.Prelude.{Contains, ◌==◌, not, option_map}
use Rattle.std.proofs.lemmas.Bool.{cases_Bool, eq-eqb, ne_eqb, false≢true, and_from, and_left, or_from, not_from_true, not_from_false}
use Rattle.std.proofs.lemmas.List.{length-drop, take_at}
use Rattle.hii_bytes.specs.Cause.{number_of}
use Rattle.hii_bytes.specs.declared.cause.Cause.{Cause}
use Rattle.hii_bytes.specs.declared.cause.Cause.TheVariants.{NotFormSet, AfterFormSet, OpOutside, OpSize, Misplaced, ScopeBit, ExprShape, ExprDepth}
use Rattle.ifr_opcodes.specs.Opcode.{number, has_scope}
use Rattle.ifr_opcodes.specs.Forest.{Forest, none, node, flat, AreNodes, SpellsForest, Mark, Ancestor, Node, as_ancestor, nodes}
use Rattle.ifr_opcodes.specs.code.Marks.{mark}
use Rattle.ifr_opcodes.specs.Rows.{is_operator}
use Rattle.ifr_opcodes.proofs.ForestLemmas.{takes}
use Rattle.ifr_expr.specs.code.Checked.{IsSized, AreSized}
use Rattle.ifr_expr.specs.Faults as expr
use Rattle.ifr_expr.specs.Faults.{IsShapeFault, IsExpressionFault, StandsBehind}
use Rattle.ifr_expr.specs.Trees.{Tree, Means, need, siblings, expression}
use Rattle.ifr_expr.specs.code.Bytes.{IsExpressionNode, opcodes_of}
use Rattle.ifr_expr.proofs.NodeLemmas.{is_expression_node, opcodes_are}
use Rattle.ifr_expr.proofs.ShapeLemmas.{no_shape}
use Rattle.ifr_nodes.specs.Nodes.{end_of}
use Rattle.ifr_nodes.specs.Structure.{has_structure_fault, innermost, parent, is_condition, is_operand, is_root, has_wrong_scope, IsNodeFault}
use Rattle.ifr_nodes.specs.Table.{class_of, class_around, admits}
use Rattle.ifr_nodes.specs.declared.table.OpcodeRow.{OpcodeRow}
use Rattle.ifr_nodes.specs.declared.table.Class.{Class}
use Rattle.ifr_nodes.specs.declared.table.Class.TheVariants.{OfExpression}
use Rattle.ifr_nodes.proofs.BehindLemmas.{siblings_inside, is_node_of}
use Rattle.ifr_nodes.proofs.ClassLemmas.{class-other}
use Rattle.ifr_nodes.proofs.InnermostLemmas.{last_or-push}
use Rattle.ifr_nodes.proofs.PlaceLemmas.{node_stands}
use Rattle.ifr_opcodes.proofs.RowLemmas.{operator_inside}
use Rattle.ifr_opcodes.proofs.TableLemmas.{and_first, and_second}
use Rattle.ifr_nodes.proofs.TableLemmas.{operator_row, guards_no_operator, wants_no_operator, wants_no_value}
use Rattle.ifr_nodes.proofs.ViewLemmas.{further, below_within}

-- ---- where the faults of an expression are told

marks_inside : (at : ℕ) (op : List ℕ) (children : Forest) → AreNodes (node op children none) → (m : Mark) → Contains (expression at op children) m → (at ≤ m.place) × (m.place < at + length (flat (node op children none)))
marks_inside at op children h m (zero, lt, e) =
    let long : 2 ≤ length op = h.0.whole.long in
    let here : at ≡ m.place = ap (λ (x : Mark). x.place) e in
    (omega (arith, here), omega (arith, here, long, (takes op children none h).0))
marks_inside at op children h m (suc k, lt, e) =
    let i = siblings_inside children (at + length op) m h.1.0 (k, omega arith, e) in
    (omega (arith, i.0), omega (arith, i.1, (takes op children none h).0))

stands_among : (marks : List Mark) (trees : List Tree) (op : Mark) → StandsBehind marks trees op → Contains marks op
stands_among marks trees op s = subst (λ (l : List Mark). Contains l op) (sym s.split) (go s.before)
  where
    go : (before : List Mark) → Contains (before ++ op ∷ s.behind) op
    go [] = (0, omega arith, refl)
    go (m ∷ before) = further m (before ++ op ∷ s.behind) op (go before)

-- at one of its opcodes, or at the expression
shape_there : (at : ℕ) (marks : List Mark) (cause : Cause) (place : ℕ) → IsShapeFault at marks cause place → (place ≡ at) ⊎ ((m : Mark) × Contains marks m × (place ≡ m.place))
shape_there at marks ExprShape place f = elim f [
  | inl (trees, op, s, few, e) ↦ inr (op, stands_among marks trees op s, e)
  | inr (trees, s, several, e) ↦ inl e
]
shape_there at marks ExprDepth place (trees, op, s, many, zero_wanted, e) = inr (op, stands_among marks trees op s, e)
shape_there at marks _ place f = absurd f

pub fault_inside : (at : ℕ) (op : List ℕ) (children : Forest) → AreNodes (node op children none) → (cause : Cause) (place : ℕ) → IsExpressionFault at (expression at op children) cause place
    → (at ≤ place) × (place < at + length (flat (node op children none)))
fault_inside at op children h cause place f =
    let all = expression at op children in
    let first = marks_inside at op children h (record { place = at; op = op }) (0, omega arith, refl) in
    elim f [
      | inl (m, within, here, there) ↦ subst (λ (p : ℕ). (at ≤ p) × (p < at + length (flat (node op children none)))) here (marks_inside at op children h m within)
      | inr (clear, shape) ↦
          elim (shape_there at all cause place shape) [
            | inl e ↦ subst (λ (p : ℕ). (at ≤ p) × (p < at + length (flat (node op children none)))) (sym e) first
            | inr (m, within, e) ↦ subst (λ (p : ℕ). (at ≤ p) × (p < at + length (flat (node op children none)))) (sym e) (marks_inside at op children h m within)
          ]
    ]

-- what is told of the order of the opcodes has the greatest numbers
pub shape_late : (at : ℕ) (marks : List Mark) (cause : Cause) (place : ℕ) → IsShapeFault at marks cause place → 30 ≤ number_of cause
shape_late at marks ExprShape place f = lit≤ tt
shape_late at marks ExprDepth place f = lit≤ tt
shape_late at marks _ place f = absurd f

pub node_early : (n : Node) (cause : Cause) → has_structure_fault n cause ≡ true → number_of cause ≤ 30
node_early n NotFormSet h = lit≤ tt
node_early n AfterFormSet h = lit≤ tt
node_early n OpOutside h = lit≤ tt
node_early n OpSize h = lit≤ tt
node_early n Misplaced h = lit≤ tt
node_early n ScopeBit h = lit≤ tt
node_early n ExprShape h = lit≤ tt
node_early n _ h = absurd (false≢true h)

-- ---- the parent

pub innermost-push : (path : List Ancestor) (a : Ancestor) → innermost (path ++ a ∷ []) ≡ Some (record { place = a.place; op = a.op })
innermost-push path a = ap (λ (found : Option Ancestor). option_map (λ (b : Ancestor). record { place = b.place; op = b.op }) found) (last_or-push None path a)

-- A node stands in the scope of an operator.
pub record IsIn (n parent : Node) : Type 0 where
  pub path : n.path ≡ parent.path ++ as_ancestor parent ∷ []
  pub operator : is_operator (number parent.op) ≡ true

its_parent : (n p : Node) → IsIn n p → parent n ≡ Some (mark p)
its_parent n p i = ap innermost i.path ∙ innermost-push p.path (as_ancestor p)

in_is_operand : (n p : Node) → IsIn n p → is_operand n ≡ true
in_is_operand n p i = rw (its_parent n p i) i.operator

pub in_is_no_condition : (n p : Node) → IsIn n p → is_condition n ≡ false
in_is_no_condition n p i = rw (its_parent n p i) (and_left _ _ (wants_no_operator (number p.op) i.operator))

in_is_no_root : (n p : Node) → IsIn n p → is_root n ≡ false
in_is_no_root n p i = ne_eqb (length n.path) 0 (λ e. omega (arith, e, ap length i.path, length-append p.path (as_ancestor p ∷ [])))

in_class : (n p : Node) → IsIn n p → class_around n.path ≡ OfExpression
in_class n p i =
    ap class_around i.path ∙ class-other p.path (as_ancestor p) (guards_no_operator (number p.op) i.operator) ∙ ap class_of (operator_row (number p.op) i.operator)

-- ---- what is wrong with an opcode by itself, as a node and as an opcode of an expression

-- the expression's own opcode
pub own_fault : (n : Node) (cause : Cause) → is_operator (number n.op) ≡ true → expr.has_opcode_fault n.place (mark n) cause ≡ true → has_structure_fault n cause ≡ true
own_fault n OpOutside operator h = h
own_fault n OpSize operator h = h
own_fault n Misplaced operator h = absurd (false≢true (sym (not_from_true (is_operator (number n.op)) operator) ∙ h))
own_fault n ScopeBit operator h = absurd (false≢true (sym (not_from_true (n.place == n.place) (eq-eqb n.place n.place refl)) ∙ and_second (has_scope n.op) _ h))
own_fault n _ operator h = absurd (false≢true h)

-- an opcode in the expression's scope, whose fault has no greater number there
pub inner_fault : (n p : Node) (cause : Cause) → IsIn n p → p.place < n.place → 4 < n.place → has_structure_fault n cause ≡ true → (other : Cause) × (expr.has_opcode_fault p.place (mark n) other ≡ true) × (number_of other ≤ number_of cause)
inner_fault n p NotFormSet i less some h = absurd (false≢true (sym (ne_eqb n.place 4 (λ e. omega arith)) ∙ and_first _ _ h))
inner_fault n p AfterFormSet i less some h = absurd (false≢true (sym (in_is_no_root n p i) ∙ and_first _ _ h))
inner_fault n p OpOutside i less some h = (OpOutside, h, lit≤ tt)
inner_fault n p OpSize i less some h = (OpSize, h, lit≤ tt)
inner_fault n p Misplaced i less some h =
    let refused : not (admits (class_around n.path) (number n.op)) ≡ true = and_second _ _ (and_second _ _ h) in
    (Misplaced, ap (λ (c : Class). not (admits c (number n.op))) (sym (in_class n p i)) ∙ refused, lit≤ tt)
inner_fault n p ScopeBit i less some h = elim (cases_Bool (is_operator (number n.op))) [
  | inl operator ↦
      let scoped : has_scope n.op ≡ true = and_second (is_operand n) _ (ap (λ (r : Option OpcodeRow). has_wrong_scope r (is_operand n) n.op) (sym (operator_row (number n.op) operator)) ∙ h) in
      (ScopeBit, and_from _ _ scoped (not_from_false _ (ne_eqb n.place p.place (λ e. omega arith))), lit≤ tt)
  | inr other ↦ (Misplaced, not_from_false _ other, lit≤ tt)
]
inner_fault n p ExprShape i less some h = elim (cases_Bool (is_operator (number n.op))) [
  | inl operator ↦ absurd (false≢true (sym (or_from _ _ (and_left _ _ (wants_no_operator (number n.op) operator)) (and_left _ _ (wants_no_value n.op operator))) ∙ h))
  | inr other ↦ (Misplaced, not_from_false _ other, lit≤ tt)
]
inner_fault n p _ i less some h = absurd (false≢true h)

-- an operator that opens a scope inside of the expression's own
scope_fault : (n p : Node) → IsIn n p → is_operator (number n.op) ≡ true → has_scope n.op ≡ true → has_structure_fault n ScopeBit ≡ true
scope_fault n p i operator scoped =
    ap (λ (r : Option OpcodeRow). has_wrong_scope r (is_operand n) n.op) (operator_row (number n.op) operator) ∙ and_from (is_operand n) (has_scope n.op) (in_is_operand n p i) scoped

-- ---- an expression that was read

-- The expression at a node means a tree within the bound, of operators that have all their fields.
pub record IsRead (n : Node) : Type 0 where
  pub tree : Tree
  pub means : Means (expression n.place n.op n.children) tree
  pub within : need tree ≤ 64
  pub sized : AreSized (expression n.place n.op n.children)

is_sized : (marks : List Mark) (m : Mark) → AreSized marks → Contains marks m → IsSized m
is_sized [] m all (k, lt, e) = absurd (omega arith)
is_sized (x ∷ marks) m all (zero, lt, e) = subst IsSized e all.0
is_sized (x ∷ marks) m all (suc k, lt, e) = is_sized marks m all.1 (k, omega arith, e)

-- What is wrong with it is the Scope of a node in its own.
pub read_fault : (f : Forest) (n : Node) (cause : Cause) (place : ℕ) → Contains (nodes f) n → IsRead n → IsExpressionFault n.place (expression n.place n.op n.children) cause place → IsNodeFault (nodes f) cause place
read_fault f n cause place within r (inr (clear, shape)) = absurd (no_shape n.place (expression n.place n.op n.children) r.tree r.means r.within cause place shape)
read_fault f n cause place within r (inl (m, (zero, lt, e), here, there)) = absurd (own cause (ap (λ (x : Mark). expr.has_opcode_fault n.place x cause) e ∙ there))
  where
    operator : is_operator (number n.op) ≡ true
    operator = r.sized.0.operator

    own : (cause : Cause) → expr.has_opcode_fault n.place (mark n) cause ≡ true → ⊥
    own OpOutside h = false≢true (sym (operator_inside n.op operator) ∙ h)
    own OpSize h = false≢true (sym r.sized.0.sized ∙ h)
    own Misplaced h = false≢true (sym (not_from_true _ operator) ∙ h)
    own ScopeBit h = false≢true (sym (not_from_true (n.place == n.place) (eq-eqb n.place n.place refl)) ∙ and_second (has_scope n.op) _ h)
    own _ h = false≢true h
read_fault f n cause place within r (inl (m, (suc k, lt, e), here, there)) = inner cause there
  where
    sized : IsSized m
    sized = is_sized (siblings (n.place + length n.op) n.children) m r.sized.1 (k, omega arith, e)

    inner : (cause : Cause) → expr.has_opcode_fault n.place m cause ≡ true → IsNodeFault (nodes f) cause place
    inner OpOutside h = absurd (false≢true (sym (operator_inside m.op sized.operator) ∙ h))
    inner OpSize h = absurd (false≢true (sym sized.sized ∙ h))
    inner Misplaced h = absurd (false≢true (sym (not_from_true _ sized.operator) ∙ h))
    inner ScopeBit h =
        let found = is_node_of n.children (n.place + length n.op) (n.path ++ as_ancestor n ∷ []) m (k, omega arith, e) in
        let i : IsIn found.0 n = record { path = found.3; operator = r.sized.0.operator } in
        let operator : is_operator (number found.0.op) ≡ true = ap (λ (x : Mark). is_operator (number x.op)) found.2 ∙ sized.operator in
        let scoped : has_scope found.0.op ≡ true = ap (λ (x : Mark). has_scope x.op) found.2 ∙ and_first (has_scope m.op) _ h in
        (found.0, below_within f 4 [] n found.0 within found.1, ap (λ (x : Mark). x.place) found.2 ∙ here, scope_fault found.0 n i operator scoped)
    inner _ h = absurd (false≢true h)

-- ---- the bytes of an expression

pub record StandsFrom (bytes : List ℕ) (n : Node) (from to : ℕ) : Type 0 where
  pub ordered : from ≤ to
  pub within : to ≤ length bytes
  pub opcodes : opcodes_of from (slice_range bytes from to) ≡ expression n.place n.op n.children
  pub is_node : IsExpressionNode (slice_range bytes from to)

pub stands_from : (bytes : List ℕ) (f : Forest) (n : Node) (from to : ℕ) → SpellsForest bytes f → Contains (nodes f) n → is_operator (number n.op) ≡ true → from ≡ n.place → to ≡ end_of n → StandsFrom bytes n from to
stands_from bytes f n from to s within operator begins ends =
    let its = flat (node n.op n.children none) in
    let stood = node_stands bytes f n s within in
    let gap : end_of n - n.place ≡ length its = omega arith in
    let there : slice_range bytes n.place (end_of n) ≡ its = ap (λ (k : ℕ). take k (drop n.place bytes)) gap ∙ ap (take (length its)) stood.1 ∙ take_at its stood.0 (length its) refl in
    let long : 2 ≤ length n.op = stood.2.0.whole.long in
    rw (begins, ends) (record {
      ordered = omega arith;
      within = omega (arith, long, (takes n.op n.children none stood.2).0, ap length stood.1, length-drop n.place bytes, length-append its stood.0);
      opcodes = opcodes_are n.place (slice_range bytes n.place (end_of n)) n.op n.children stood.2 there;
      is_node = is_expression_node (slice_range bytes n.place (end_of n)) n.op n.children stood.2 there operator;
    })

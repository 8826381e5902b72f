-- The first node with a fault has the least, and what is told of the node that a walk met is told of that node.
use Rattle.std.proofs.Common.{◌≡◌, ◌⊎◌, ℕ, zero, suc, ◌+◌, ◌<◌, ◌≤◌, ◌∷◌, ◌++◌, true, eqb, Option, Some, None, List, [], length, drop, take, slice_range, map, refl, sym, ap, subst, ◌∙◌, append_assoc, arith, inl, inr, lit≤}
use Rattle.std.specs.Prelude.{Contains, ◌==◌, ◌&&◌, not}
use Rattle.std.proofs.lemmas.Bool.{cases_Bool, false≢true, eqb-true, eqb-false, ne_eqb, and_from, not_from_false}
use Rattle.std.proofs.lemmas.List.{append-nil, length-drop}
use Rattle.std.proofs.lemmas.List.Elements.{Contains-append_cases, Contains-append_right, Contains-push_cases}
use Rattle.hii_bytes.specs.Cause.{number_of}
use Rattle.hii_bytes.specs.Faults.{IsLeast, HasNone}
use Rattle.hii_bytes.specs.code.FirstFaults.{AreAll, first_fault, fault_or, Rise}
use Rattle.hii_bytes.specs.declared.cause.Cause.{Cause}
use Rattle.hii_bytes.specs.declared.cause.Cause.TheVariants.{NotFormSet, AfterFormSet, OpOutside, OpSize, Misplaced, ScopeBit, ExprShape}
use Rattle.hii_bytes.specs.declared.cause.Fault.{Fault}
use Rattle.hii_bytes.proofs.FirstFaultLemmas.{first_among, none_among}
use Rattle.ifr_opcodes.specs.Forest.{Forest, none, node, flat, Mark, Ancestor, Node, as_ancestor, nodes, AreNodes, SpellsForest}
use Rattle.ifr_opcodes.specs.code.Marks.{mark}
use Rattle.ifr_opcodes.specs.Opcode.{number, has_scope}
use Rattle.ifr_opcodes.specs.Rows.{is_operator}
use Rattle.ifr_opcodes.specs.code.Ops.{bytes_of}
use Rattle.ifr_opcodes.specs.Reading.{tree_of, opcodes_in}
use Rattle.ifr_opcodes.specs.code.Marks.{ancestor_at, inside}
use Rattle.ifr_expr.specs.code.Checked.{AreSized}
use Rattle.ifr_expr.specs.code.Expressions.{tree_of as tree_of_expr}
use Rattle.ifr_expr.specs.Faults as expr
use Rattle.ifr_expr.specs.Faults.{IsExpressionFault}
use Rattle.ifr_expr.specs.code.Bytes.{opcodes_of}
use Rattle.ifr_expr.specs.Trees.{Means, siblings, expression}
use Rattle.ifr_expr.specs.declared.expr.Expr.{Expr}
use Rattle.ifr_nodes.specs.code.Checked.{node_in, has_node}
use Rattle.ifr_nodes.specs.Nodes.{nodes_of, end_of}
use Rattle.ifr_nodes.specs.Structure.{has_structure_fault, is_condition, is_expression, IsNodeFault, IsFaultOfExpression, IsStructureFault}
use Rattle.ifr_nodes.specs.code.Causes.{structure_causes, least_cause}
use Rattle.ifr_nodes.specs.code.Visits.{Meets, left}
use Rattle.ifr_nodes.specs.declared.walk.Visit.{Visit}
use Rattle.ifr_nodes.specs.declared.walk.Walk.{Walk}
use Rattle.ifr_opcodes.proofs.ForestLemmas.{takes}
use Rattle.ifr_opcodes.proofs.TableLemmas.{and_first, and_second}
use Rattle.ifr_nodes.proofs.BehindLemmas.{Inside, are_inside, below_or_behind, at_or_in, siblings_inside}
use Rattle.ifr_nodes.proofs.ExpressionLemmas.{IsIn, IsRead, StandsFrom, stands_from, fault_inside, shape_late, node_early, own_fault, inner_fault, in_is_no_condition, read_fault}
use Rattle.ifr_nodes.proofs.PlaceLemmas.{Within, nodes_within}
use Rattle.ifr_nodes.proofs.ViewLemmas.{further, is_at, node_in_place}

-- the first fault among nodes
abbrev pub first_of : List Node → Option Fault
first_of ns = first_fault (λ (n : Node). n.place) has_structure_fault structure_causes ns

-- a cause that a node has is one of the seven
pub among : (n : Node) (d : Cause) → has_structure_fault n d ≡ true → Contains structure_causes d
among n NotFormSet h = (0, omega arith, refl)
among n AfterFormSet h = (1, omega arith, refl)
among n OpOutside h = (2, omega arith, refl)
among n OpSize h = (3, omega arith, refl)
among n Misplaced h = (4, omega arith, refl)
among n ScopeBit h = (5, omega arith, refl)
among n ExprShape h = (6, omega arith, refl)
among n _ h = absurd (false≢true h)

all_causes : AreAll has_structure_fault structure_causes
all_causes = record { rise = (lit≤ tt, (lit≤ tt, (lit≤ tt, (lit≤ tt, (lit≤ tt, (lit≤ tt, (lit≤ tt, tt))))))); all = among }

pub rising : (ns : List Node) (low high : ℕ) → Within low high ns → Rise (λ (n : Node). n.place) low ns
rising [] low high w = tt
rising (n ∷ ns) low high w = (w.0, rising ns (n.place + 1) high w.1)

-- ---- where checking stands

-- These nodes are left of all. Those before them have no fault, and what is wrong with their expressions is a fault of a node.
pub record Stands (all left : List Node) : Type 0 where
  pub before : List Node
  pub split : all ≡ before ++ left
  pub sound : HasNone (IsNodeFault before)
  pub read : (cause : Cause) (place : ℕ) → IsFaultOfExpression before cause place → IsNodeFault all cause place

pub at_start : (all left : List Node) → left ≡ all → Stands all left
at_start all left e = record {
  before = [];
  split = sym e;
  sound = λ d p (n, (k, lt, same), at, there). omega arith;
  read = λ d p (n, (k, lt, same), is, fault). absurd (omega arith);
}

-- the first of the nodes that are left is one of all, and no place before it is left
is_left : (all left : List Node) (n m : Node) → Stands all (n ∷ left) → Contains (n ∷ left) m → Contains all m
is_left all left n m s within = subst (λ (l : List Node). Contains l m) (sym s.split) (Contains-append_right s.before (n ∷ left) m within)

behind : (before left : List Node) (low : ℕ) → Rise (λ (n : Node). n.place) low (before ++ left) → (from : ℕ) × Rise (λ (n : Node). n.place) from left
behind [] left low r = (low, r)
behind (m ∷ before) left low r = behind before left (m.place + 1) r.1

left_rise : (f : Forest) (left : List Node) → AreNodes f → Stands (nodes f) left → (from : ℕ) × Rise (λ (n : Node). n.place) from left
left_rise f left a s = behind s.before left 4 (subst (Rise (λ (n : Node). n.place) 4) s.split (rising (nodes f) 4 (4 + length (flat f)) (nodes_within f 4 [] a)))

above : (low : ℕ) (ns : List Node) (m : Node) → Rise (λ (n : Node). n.place) low ns → Contains ns m → low ≤ m.place
above low [] m r (k, lt, e) = absurd (omega arith)
above low (n ∷ ns) m r (zero, lt, e) = omega (arith, r.0, ap (λ (p : Node). p.place) e)
above low (n ∷ ns) m r (suc k, lt, e) = omega (arith, r.0, above (n.place + 1) ns m r.1 (k, omega arith, e))

-- a node without fault was passed, and its expression was read where it has one
pub goes_on : (f : Forest) (left : List Node) (n : Node) → Stands (nodes f) (n ∷ left) → least_cause n ≡ None → (is_expression n ≡ true → IsRead n) → Stands (nodes f) left
goes_on f left n s clear read = record {
  before = s.before ++ n ∷ [];
  split = s.split ∙ sym (append_assoc s.before (n ∷ []) left);
  sound = λ d p (m, within, at, there). elim (Contains-push_cases s.before n m within) [
    | inl w ↦ s.sound d p (m, w, at, there)
    | inr same ↦ alone d p (m, (0, omega arith, same), at, there)
  ];
  read = λ d p (m, within, is, fault). elim (Contains-push_cases s.before n m within) [
    | inl w ↦ s.read d p (m, w, is, fault)
    | inr same ↦ own d p (subst (λ (x : Node). is_expression x ≡ true) (sym same) is) (subst (λ (x : Node). IsExpressionFault x.place (expression x.place x.op x.children) d p) (sym same) fault)
  ];
}
  where
    alone : HasNone (IsNodeFault (n ∷ []))
    alone = none_among (λ (m : Node). m.place) has_structure_fault structure_causes (n ∷ []) all_causes (ap (λ (o : Option Cause). fault_or o n.place None) clear)

    own : (d : Cause) (p : ℕ) → is_expression n ≡ true → IsExpressionFault n.place (expression n.place n.op n.children) d p → IsNodeFault (nodes f) d p
    own d p is fault = read_fault f n d p (is_left (nodes f) left n n s (0, omega arith, refl)) (read is) fault

-- what stands before a fault, or at its place with no greater number
abbrev pub IsNotAbove : Fault → Cause → ℕ → Type 0
IsNotAbove fault cause place = (fault.place < place) ⊎ ((fault.place ≡ place) × (number_of fault.cause ≤ number_of cause))

-- A fault that is not above those of the nodes that are left and of their expressions is the least.
least_of_left : (f : Forest) (left : List Node) (n : Node) (fault : Fault) → Stands (nodes f) (n ∷ left) → IsStructureFault (nodes f) fault.cause fault.place
    → ((cause : Cause) (place : ℕ) → IsNodeFault (n ∷ left) cause place → IsNotAbove fault cause place)
    → ((cause : Cause) (place : ℕ) → IsFaultOfExpression (n ∷ left) cause place → IsNotAbove fault cause place)
    → IsLeast (IsStructureFault (nodes f)) fault
least_of_left f left n fault s told of_nodes of_expressions = record { told = told; least = least }
  where
    node : (d : Cause) (p : ℕ) → IsNodeFault (nodes f) d p → IsNotAbove fault d p
    node d p (m, within, at, there) = elim (Contains-append_cases s.before (n ∷ left) m (subst (λ (l : List Node). Contains l m) s.split within)) [
      | inl w ↦ absurd (s.sound d p (m, w, at, there))
      | inr w ↦ of_nodes d p (m, w, at, there)
    ]

    least : (d : Cause) (p : ℕ) → IsStructureFault (nodes f) d p → IsNotAbove fault d p
    least d p (inl (nothing, is, at)) = absurd (omega (arith, (is_left (nodes f) left n n s (0, omega arith, refl)).1, ap (λ (l : List Node). length l) nothing))
    least d p (inr (inl h)) = node d p h
    least d p (inr (inr (m, within, is, h))) = elim (Contains-append_cases s.before (n ∷ left) m (subst (λ (l : List Node). Contains l m) s.split within)) [
      | inl w ↦ node d p (s.read d p (m, w, is, h))
      | inr w ↦ of_expressions d p (m, w, is, h)
    ]

at_or_behind : (a b : ℕ) → a ≤ b → (a < b) ⊎ (a ≡ b)
at_or_behind a b le = elim (cases_Bool (eqb a b)) [
  | inl e ↦ inr (eqb-true a b e)
  | inr e ↦ let other = eqb-false a b e in inl (omega (arith, le, other))
]

operates : (n : Node) → is_expression n ≡ true → is_operator (number n.op) ≡ true
operates n is = and_second (is_condition n) _ is

-- the first node that has a fault has the least
pub refused_node : (f : Forest) (left : List Node) (n : Node) (cause : Cause) → AreNodes f → Stands (nodes f) (n ∷ left) → least_cause n ≡ Some cause → IsLeast (IsStructureFault (nodes f)) (record { cause = cause; place = n.place })
refused_node f left n cause a s e = least_of_left f left n fault s (inr (inl told)) first.least of_expressions
  where
    fault : Fault
    fault = record { cause = cause; place = n.place }

    rise : (from : ℕ) × Rise (λ (m : Node). m.place) from (n ∷ left)
    rise = left_rise f (n ∷ left) a s

    first : IsLeast (IsNodeFault (n ∷ left)) fault
    first = first_among (λ (m : Node). m.place) has_structure_fault structure_causes rise.0 (n ∷ left) fault all_causes rise.1 (ap (λ (o : Option Cause). fault_or o n.place (first_of left)) e)

    told : IsNodeFault (nodes f) cause n.place
    told = let t = first.told in (t.0, is_left (nodes f) left n t.0 s t.1, t.2, t.3)

    early : number_of cause ≤ 30
    early = let t = first.told in node_early t.0 cause t.3

    here : (d : Cause) (p : ℕ) → is_expression n ≡ true → IsExpressionFault n.place (expression n.place n.op n.children) d p → IsNotAbove fault d p
    here d p is (inl (m, (zero, lt, same), at, there)) =
        let place : n.place ≡ p = ap (λ (x : Mark). x.place) same ∙ at in
        first.least d p (n, (0, omega arith, refl), place, own_fault n d (operates n is) (ap (λ (x : Mark). expr.has_opcode_fault n.place x d) same ∙ there))
    here d p is (inl (m, (suc k, lt, same), at, there)) =
        let i = are_inside f 4 [] n a (is_left (nodes f) left n n s (0, omega arith, refl)) in
        let long : 2 ≤ length n.op = i.are_nodes.0.whole.long in
        let inner = siblings_inside n.children (n.place + length n.op) m i.are_nodes.1.0 (k, omega arith, same) in
        inl (omega (arith, inner.0, at, long))
    here d p is (inr (clear, shape)) =
        let i = are_inside f 4 [] n a (is_left (nodes f) left n n s (0, omega arith, refl)) in
        let inner = fault_inside n.place n.op n.children i.are_nodes d p (inr (clear, shape)) in
        let late = shape_late n.place (expression n.place n.op n.children) d p shape in
        elim (at_or_behind n.place p inner.0) [ inl less ↦ inl less | inr same ↦ inr (same, omega (arith, early, late)) ]

    of_expressions : (d : Cause) (p : ℕ) → IsFaultOfExpression (n ∷ left) d p → IsNotAbove fault d p
    of_expressions d p (m, (zero, lt, same), is, h) =
        here d p (subst (λ (x : Node). is_expression x ≡ true) (sym same) is) (subst (λ (x : Node). IsExpressionFault x.place (expression x.place x.op x.children) d p) (sym same) h)
    of_expressions d p (m, (suc k, lt, same), is, h) =
        let i = are_inside f 4 [] m a (is_left (nodes f) left n m s (suc k, lt, same)) in
        let inner = fault_inside m.place m.op m.children i.are_nodes d p h in
        inl (omega (arith, inner.0, above (n.place + 1) left m rise.1.1 (k, omega arith, same)))

-- the first expression that has a fault has the least, where its node has none
pub refused_expression : (f : Forest) (left : List Node) (n : Node) (fault : Fault) → AreNodes f → Stands (nodes f) (n ∷ left) → least_cause n ≡ None → is_expression n ≡ true
    → IsLeast (IsExpressionFault n.place (expression n.place n.op n.children)) fault → IsLeast (IsStructureFault (nodes f)) fault
refused_expression f left n fault a s clear is l = least_of_left f left n fault s (inr (inr (n, within, is, l.told))) of_nodes of_expressions
  where
    within : Contains (nodes f) n
    within = is_left (nodes f) left n n s (0, omega arith, refl)

    i : Inside 4 (4 + length (flat f)) n
    i = are_inside f 4 [] n a within

    stands : (n.place ≤ fault.place) × (fault.place < end_of n)
    stands = fault_inside n.place n.op n.children i.are_nodes fault.cause fault.place l.told

    rise : (from : ℕ) × Rise (λ (m : Node). m.place) from (n ∷ left)
    rise = left_rise f (n ∷ left) a s

    all : List Mark
    all = expression n.place n.op n.children

    -- a node behind the expression's own stands behind the fault, or it is the node of an opcode of the expression
    later : (m : Node) → Contains left m → (n.place < m.place) × ((fault.place < m.place) ⊎ (IsIn m n × Contains all (mark m)))
    later m w =
        let less : n.place < m.place = omega (arith, above (n.place + 1) left m rise.1.1 w) in
        let long : 2 ≤ length n.op = i.are_nodes.0.whole.long in (
          less,
          elim (below_or_behind f 4 [] n m a within (is_left (nodes f) left n m s (further n left m w)) less) [
            | inr far ↦ inl (omega (arith, far, stands.1))
            | inl inner ↦
                let r = at_or_in n.children (n.place + length n.op) (n.path ++ as_ancestor n ∷ []) m i.are_nodes.1.0 inner in
                let among : Contains all r.first = further (mark n) (siblings (n.place + length n.op) n.children) r.first r.within in
                let place = siblings_inside n.children (n.place + length n.op) r.first i.are_nodes.1.0 r.within in
                elim r.where_it_is [
                  | inl (same, path) ↦ inr (record { path = path; operator = operates n is }, subst (Contains all) same among)
                  | inr (before, scoped) ↦
                      let other : has_scope r.first.op && not (r.first.place == n.place) ≡ true = and_from _ _ scoped (not_from_false _ (ne_eqb r.first.place n.place (λ e. omega (arith, e, long, place.0)))) in
                      elim (l.least ScopeBit r.first.place (inl (r.first, among, refl, other))) [ inl x ↦ inl (omega (arith, x, before)) | inr x ↦ inl (omega (arith, x.0, before)) ]
                ]
          ],
        )

    of_nodes : (d : Cause) (p : ℕ) → IsNodeFault (n ∷ left) d p → IsNotAbove fault d p
    of_nodes d p (m, (zero, lt, same), at, there) = absurd (none_among (λ (x : Node). x.place) has_structure_fault structure_causes (n ∷ []) all_causes (ap (λ (o : Option Cause). fault_or o n.place None) clear) d p (m, (0, omega arith, same), at, there))
    of_nodes d p (m, (suc k, lt, same), at, there) =
        let b = later m (k, omega arith, same) in
        elim b.1 [
          | inl less ↦ inl (omega (arith, less, at))
          | inr (is_in, among) ↦
              let other = inner_fault m n d is_in b.0 (omega (arith, i.low, b.0)) there in
              elim (l.least other.0 m.place (inl (mark m, among, refl, other.1))) [ inl less ↦ inl (omega (arith, less, at)) | inr x ↦ inr (x.0 ∙ at, omega (arith, x.1, other.2)) ]
        ]

    of_expressions : (d : Cause) (p : ℕ) → IsFaultOfExpression (n ∷ left) d p → IsNotAbove fault d p
    of_expressions d p (m, (zero, lt, same), is_one, h) = l.least d p (subst (λ (x : Node). IsExpressionFault x.place (expression x.place x.op x.children) d p) (sym same) h)
    of_expressions d p (m, (suc k, lt, same), is_one, h) =
        let b = later m (k, omega arith, same) in
        let j = are_inside f 4 [] m a (is_left (nodes f) left n m s (suc k, lt, same)) in
        let inner = fault_inside m.place m.op m.children j.are_nodes d p h in
        elim b.1 [
          | inl less ↦ inl (omega (arith, less, inner.0))
          | inr (is_in, among) ↦ absurd (false≢true (sym (in_is_no_condition m n is_in) ∙ and_first (is_condition m) _ is_one))
        ]

some_bytes : (f : Forest) → nodes f ≡ [] → flat f ≡ []
some_bytes none e = refl
some_bytes (node op children rest) e = absurd (omega (arith, ap (λ (l : List Node). length l) e))

-- where no node is left there is no fault
pub sound_all : (bytes : List ℕ) (f : Forest) (left : List Node) → SpellsForest bytes f → 4 < length bytes → Stands (nodes f) left → left ≡ [] → HasNone (IsStructureFault (nodes f))
sound_all bytes f left s some stands e = none
  where
    is : nodes f ≡ stands.before
    is = stands.split ∙ ap (λ (l : List Node). stands.before ++ l) e ∙ append-nil stands.before

    no_fault : HasNone (IsNodeFault (nodes f))
    no_fault = subst (λ (l : List Node). HasNone (IsNodeFault l)) (sym is) stands.sound

    none : HasNone (IsStructureFault (nodes f))
    none d p (inl h) = omega (arith, some, length-drop 4 bytes, ap (λ (l : List ℕ). length l) (s.spelled ∙ some_bytes f h.0))
    none d p (inr (inl h)) = no_fault d p h
    none d p (inr (inr h)) = no_fault d p (stands.read d p (subst (λ (l : List Node). IsFaultOfExpression l d p) is h))

no_nodes : (f : Forest) → AreNodes f → length (flat f) ≡ 0 → nodes f ≡ []
no_nodes none a e = refl
no_nodes (node op children rest) a e = let long : 2 ≤ length op = a.0.whole.long in absurd (omega (arith, takes op children rest a, e))

pub empty_is_least : (bytes : List ℕ) (f : Forest) → SpellsForest bytes f → length bytes ≡ 4 → IsLeast (IsStructureFault (nodes f)) (record { cause = NotFormSet; place = 4 })
empty_is_least bytes f s e =
    let none_left : nodes f ≡ [] = no_nodes f s.are_nodes (omega (arith, length-drop 4 bytes, ap (λ (l : List ℕ). length l) s.spelled)) in
    record {
      told = inl (none_left, refl, refl);
      least = λ d p other. elim other [
        | inl h ↦ inr (sym h.2, omega (arith, ap number_of h.1))
        | inr (inl h) ↦ absurd (omega (arith, h.1.1, ap (λ (l : List Node). length l) none_left))
        | inr (inr h) ↦ absurd (omega (arith, h.1.1, ap (λ (l : List Node). length l) none_left))
      ];
    }

-- ---- the node that a walk met

-- The walk met the first of the nodes that were left, at these places.
pub record IsMet (bytes around : List ℕ) (visit : Visit) (new : Walk) : Type 0 where
  pub node : Node
  pub seen : record { place = visit.op.place; op = bytes_of visit.op; path = map (ancestor_at bytes) around; children = node.children } ≡ node
  pub children : node.children ≡ inside (bytes_of visit.op) (opcodes_in (drop new.at new.bytes.now))
  pub stands : Stands (nodes_of bytes) (node ∷ left new)
  pub within : Contains (nodes_of bytes) node

same_node : (n : Node) (place : ℕ) (op : List ℕ) (path : List Ancestor) → place ≡ n.place → op ≡ n.op → path ≡ n.path → record { place = place; op = op; path = path; children = n.children } ≡ n
same_node n place op path p o q = rw (p, o, q) refl

pub is_met : (old new : Walk) (visit : Visit) (m : Meets old visit new) (bytes around : List ℕ) → old.bytes.now ≡ bytes → around ≡ take visit.depth new.around.items → Stands (nodes_of bytes) (left old) → IsMet bytes around visit new
is_met old new visit m bytes around kept a s =
    let stands : Stands (nodes_of bytes) (m.node ∷ left new) = subst (Stands (nodes_of bytes)) m.next s in
    record {
      node = m.node;
      seen = same_node m.node visit.op.place (bytes_of visit.op) (map (ancestor_at bytes) around) (ap (λ (s : Mark). s.place) m.shown) (ap (λ (s : Mark). s.op) m.shown)
          (ap (map (ancestor_at bytes)) a ∙ ap (λ b. map (ancestor_at b) (take visit.depth new.around.items)) (sym (m.package_stays ∙ kept)) ∙ sym m.path);
      children = m.children;
      stands = stands;
      within = is_left (nodes_of bytes) (left new) m.node m.node stands (0, omega arith, refl);
    }

pub met_place : (bytes around : List ℕ) (visit : Visit) (new : Walk) (m : IsMet bytes around visit new) → visit.op.place ≡ m.node.place
met_place bytes around visit new m = ap (λ (n : Node). n.place) m.seen

pub met_there : (bytes around : List ℕ) (visit : Visit) (new : Walk) → IsMet bytes around visit new → SpellsForest bytes (tree_of bytes) → has_node bytes visit.op.place ≡ true
met_there bytes around visit new m s = rw (met_place bytes around visit new m) (is_at bytes m.node s m.within).there

-- where its expression stands
pub met_from : (bytes around : List ℕ) (visit : Visit) (new : Walk) (m : IsMet bytes around visit new) (to : ℕ) → SpellsForest bytes (tree_of bytes) → is_expression m.node ≡ true → to ≡ end_of (node_in bytes visit.op.place) → StandsFrom bytes m.node visit.op.place to
met_from bytes around visit new m to s is ends =
    let here = met_place bytes around visit new m in
    stands_from bytes (tree_of bytes) m.node visit.op.place to s m.within (operates m.node is) here (ends ∙ ap (λ (p : ℕ). end_of (node_in bytes p)) here ∙ ap end_of (node_in_place bytes m.node s m.within))

-- it was read
pub was_read : (bytes : List ℕ) (n : Node) (from to : ℕ) (expr : Expr) → StandsFrom bytes n from to → Means (opcodes_of from (slice_range bytes from to)) (tree_of_expr expr) → IsRead n
was_read bytes n from to expr s means = record {
  tree = tree_of_expr expr;
  means = subst (λ (l : List Mark). Means l (tree_of_expr expr)) s.opcodes means;
  within = expr.checked.within;
  sized = subst AreSized (sym expr.checked.means.spelled ∙ means.spelled ∙ s.opcodes) expr.checked.sized;
}

-- or refused
pub was_refused : (bytes around : List ℕ) (visit : Visit) (new : Walk) (m : IsMet bytes around visit new) (to : ℕ) (fault : Fault) → SpellsForest bytes (tree_of bytes) → least_cause m.node ≡ None → is_expression m.node ≡ true → StandsFrom bytes m.node visit.op.place to
    → IsLeast (IsExpressionFault visit.op.place (opcodes_of visit.op.place (slice_range bytes visit.op.place to))) fault → IsLeast (IsStructureFault (nodes_of bytes)) fault
was_refused bytes around visit new m to fault s clear is stood l =
    let here = met_place bytes around visit new m in
    let told = subst (λ (marks : List Mark). IsLeast (IsExpressionFault visit.op.place marks) fault) stood.opcodes l in
    refused_expression (tree_of bytes) (left new) m.node fault s.are_nodes m.stands clear is
    (subst (λ (p : ℕ). IsLeast (IsExpressionFault p (expression m.node.place m.node.op m.node.children)) fault) here told)

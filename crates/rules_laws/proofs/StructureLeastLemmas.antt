-- Of the nodes of a package that spells a forest, the chapters tell the least fault that the contracts say.
use Rattle.std.proofs.Common.{◌≡◌, ◌⊎◌, ◌↔◌, ℕ, zero, suc, ◌+◌, ◌<◌, ◌≤◌, true, false, not, Option, Some, List, [], ◌∷◌, ◌++◌, length, refl, ap, sym, subst, ◌∙◌, inl, inr, arith, lit<, length-append}
use Rattle.std.specs.Prelude.{◌||◌, Contains}
use Rattle.std.proofs.lemmas.Bool.{cases_Bool, false≢true, ne_eqb, and_from, and_left, or_from, not_from_false}
use Rattle.hii_bytes.specs.Cause.{number_of}
use Rattle.hii_bytes.specs.Faults.{HasNone, IsLeast as IsLeastOf}
use Rattle.hii_bytes.specs.declared.cause.Cause.{Cause}
use Rattle.hii_bytes.specs.declared.cause.Cause.TheVariants.{OpOutside, OpSize, Misplaced, ScopeBit}
use Rattle.hii_bytes.specs.declared.cause.Fault.{Fault as CodeFault}
use Rattle.ifr_opcodes.specs.Forest.{SpellsForest, Mark, Node, as_ancestor}
use Rattle.ifr_opcodes.specs.Opcode.{number, has_scope}
use Rattle.ifr_opcodes.specs.Rows.{is_operator}
use Rattle.ifr_opcodes.specs.Reading.{tree_of}
use Rattle.ifr_opcodes.specs.code.Marks.{mark}
use Rattle.ifr_opcodes.proofs.TableLemmas.{and_first, and_second}
use Rattle.ifr_expr.specs.Faults.{has_opcode_fault, IsOpcodeFault}
use Rattle.ifr_nodes.specs.Nodes.{nodes_of}
use Rattle.ifr_nodes.specs.Structure.{begins_scope, begins_with_value, has_structure_fault, has_wrong_scope, innermost, is_condition, is_expression, is_operand, is_operator_scope, is_root, is_wanted, parent, IsNodeFault, IsStructureFault}
use Rattle.ifr_nodes.specs.Table.{admits, class_around, class_of}
use Rattle.ifr_nodes.specs.declared.table.Class.{Class}
use Rattle.ifr_nodes.specs.declared.table.Class.TheVariants.{OfExpression}
use Rattle.ifr_nodes.specs.declared.table.OpcodeRow.{OpcodeRow}
use Rattle.ifr_nodes.proofs.BehindLemmas.{is_node_of}
use Rattle.ifr_nodes.proofs.ClassLemmas.{class-other}
use Rattle.ifr_nodes.proofs.ExpressionLemmas.{IsIn, innermost-push, own_fault}
use Rattle.ifr_nodes.proofs.TableLemmas.{guards_no_operator, operator_row, wants_no_operator, wants_no_value}
use Rattle.ifr_nodes.proofs.ViewLemmas.{below_within}
use Rattle.browser_rules.specs.Faults.{IsLeast, structure_faults}
use Rattle.hii_bytes.specs.Causes.{fault_for}
use Rattle.rules_laws.specs.laws.Structure.{opcodes_at, IsOwnFault}
use Rattle.hii_bytes.proofs.ChapterFaultLemmas.{same_least, same_none}
use Rattle.rules_laws.proofs.StructureFaultLemmas.{same_own_faults}

-- ---- a node in the scope of an operator

its_parent : (n p : Node) → IsIn n p → parent n ≡ Some (mark p)
its_parent n p i = ap innermost i.path ∙ innermost-push p.path (as_ancestor p)

is_no_root : (n p : Node) → IsIn n p → is_root n ≡ false
is_no_root n p i = ne_eqb (length n.path) 0 (λ e. omega (arith, e, ap length i.path, length-append p.path (as_ancestor p ∷ [])))

is_not_wanted : (n p : Node) → IsIn n p → is_wanted n ≡ false
is_not_wanted n p i =
    ap (λ (o : Option Mark). begins_scope n.place o || begins_with_value n.place o) (its_parent n p i)
    ∙ or_from _ _ (and_left _ _ (wants_no_operator (number p.op) i.operator)) (and_left _ _ (wants_no_value p.op i.operator))

class_there : (n p : Node) → IsIn n p → class_around n.path ≡ OfExpression
class_there n p i =
    ap class_around i.path ∙ class-other p.path (as_ancestor p) (guards_no_operator (number p.op) i.operator) ∙ ap class_of (operator_row (number p.op) i.operator)

misplaced : (n p : Node) → IsIn n p → not (is_operator (number n.op)) ≡ true → has_structure_fault n Misplaced ≡ true
misplaced n p i other =
    and_from _ _ (not_from_false _ (is_no_root n p i))
    (and_from _ _ (not_from_false _ (is_not_wanted n p i)) (ap (λ (c : Class). not (admits c (number n.op))) (class_there n p i) ∙ other))

scoped : (n p : Node) → IsIn n p → is_operator (number n.op) ≡ true → has_scope n.op ≡ true → has_structure_fault n ScopeBit ≡ true
scoped n p i operator scope =
    ap (λ (r : Option OpcodeRow). has_wrong_scope r (is_operand n) n.op) (operator_row (number n.op) operator)
    ∙ and_from (is_operand n) (has_scope n.op) (ap is_operator_scope (its_parent n p i) ∙ i.operator) scope

-- What its opcode has in the expression, the node has as well, but for Scope: where that is no operator's, it is misplaced.
inner : (n p : Node) (c : Cause) → IsIn n p → has_opcode_fault p.place (mark n) c ≡ true → (has_structure_fault n c ≡ true) ⊎ ((c ≡ ScopeBit) × (has_structure_fault n Misplaced ≡ true))
inner n p OpOutside i h = inl h
inner n p OpSize i h = inl h
inner n p Misplaced i h = inl (misplaced n p i h)
inner n p ScopeBit i h = elim (cases_Bool (is_operator (number n.op))) [
  | inl operator ↦ inl (scoped n p i operator (and_first _ _ h))
  | inr other ↦ inr (refl, misplaced n p i (not_from_false _ other))
]
inner n p _ i h = absurd (false≢true h)

-- ---- the nodes of a package

-- It is one of these faults, or it is of Scope and that of a misplaced opcode is one.
abbrev Covered : (Cause → ℕ → Type 0) → Cause → ℕ → Type 0
Covered IsFault c p = IsFault c p ⊎ ((c ≡ ScopeBit) × IsFault Misplaced p)

at_nodes : (bytes : List ℕ) (n : Node) (c : Cause) (p : ℕ) → Contains (nodes_of bytes) n → is_expression n ≡ true → IsOpcodeFault n.place (opcodes_at n) c p → Covered (IsNodeFault (nodes_of bytes)) c p
at_nodes bytes n c p within is (m, (zero, lt, same), at, has) =
    inl (n, within, ap (λ (x : Mark). x.place) same ∙ at, own_fault n c (and_second (is_condition n) _ is) (ap (λ (x : Mark). has_opcode_fault n.place x c) same ∙ has))
at_nodes bytes n c p within is (m, (suc k, lt, same), at, has) =
    let its = is_node_of n.children (n.place + length n.op) (n.path ++ as_ancestor n ∷ []) m (k, omega arith, same) in
    let i : IsIn its.0 n = record { path = its.3; operator = and_second (is_condition n) _ is } in
    let there = below_within (tree_of bytes) 4 [] n its.0 within its.1 in
    let place : its.0.place ≡ p = ap (λ (x : Mark). x.place) its.2 ∙ at in
    elim (inner its.0 n c i (ap (λ (x : Mark). has_opcode_fault n.place x c) its.2 ∙ has)) [
      | inl own ↦ inl (its.0, there, place, own)
      | inr t ↦ inr (t.0, (its.0, there, place, t.1))
    ]

own_told : (bytes : List ℕ) (c : Cause) (p : ℕ) → IsOwnFault (nodes_of bytes) c p → IsStructureFault (nodes_of bytes) c p
own_told bytes c p (inl a) = inl a
own_told bytes c p (inr (inl b)) = inr (inl b)
own_told bytes c p (inr (inr (n, there, (is, clear, shape)))) = inr (inr (n, there, is, inr (clear, shape)))

covered : (bytes : List ℕ) (c : Cause) (p : ℕ) → IsStructureFault (nodes_of bytes) c p → Covered (IsOwnFault (nodes_of bytes)) c p
covered bytes c p (inl a) = inl (inl a)
covered bytes c p (inr (inl b)) = inl (inr (inl b))
covered bytes c p (inr (inr (n, there, is, inr (clear, shape)))) = inl (inr (inr (n, there, (is, clear, shape))))
covered bytes c p (inr (inr (n, there, is, inl opcode))) = elim (at_nodes bytes n c p there is opcode) [
  | inl own ↦ inl (inr (inl own))
  | inr t ↦ inr (t.0, inr (inl t.1))
]

abbrev NotAbove : CodeFault → Cause → ℕ → Type 0
NotAbove fault c p = (fault.place < p) ⊎ ((fault.place ≡ p) × (number_of fault.cause ≤ number_of c))

misplaced_first : (c : Cause) → c ≡ ScopeBit → number_of Misplaced < number_of c
misplaced_first c same = subst (λ (d : Cause). number_of Misplaced < number_of d) (sym same) (lit< tt)

lower : (fault : CodeFault) (c d : Cause) (p : ℕ) → number_of d < number_of c → NotAbove fault d p → NotAbove fault c p
lower fault c d p less (inl before) = inl before
lower fault c d p less (inr (same, le)) = inr (same, omega (arith, less, le))

not_lower : (fault : CodeFault) (d : Cause) → number_of d < number_of fault.cause → NotAbove fault d fault.place → ⊥
not_lower fault d less (inl before) = omega (arith, before)
not_lower fault d less (inr (same, le)) = omega (arith, less, le)

least_own : (bytes : List ℕ) (fault : CodeFault) → IsLeastOf (IsOwnFault (nodes_of bytes)) fault → IsLeastOf (IsStructureFault (nodes_of bytes)) fault
least_own bytes fault l = record {
  told = own_told bytes fault.cause fault.place l.told;
  least = λ c p is. elim (covered bytes c p is) [ inl own ↦ l.least c p own | inr t ↦ lower fault c Misplaced p (misplaced_first c t.0) (l.least Misplaced p t.1) ];
}

least_told : (bytes : List ℕ) (fault : CodeFault) → IsLeastOf (IsStructureFault (nodes_of bytes)) fault → IsLeastOf (IsOwnFault (nodes_of bytes)) fault
least_told bytes fault l = record {
  told = elim (covered bytes fault.cause fault.place l.told) [
    | inl own ↦ own
    | inr t ↦ absurd (not_lower fault Misplaced (misplaced_first fault.cause t.0) (l.least Misplaced fault.place (own_told bytes Misplaced fault.place t.1)))
  ];
  least = λ c p own. l.least c p (own_told bytes c p own);
}

pub same_least_structure : (bytes : List ℕ) (fault : CodeFault) → SpellsForest bytes (tree_of bytes) → (IsLeast (structure_faults (nodes_of bytes)) (fault_for fault.cause fault.place) ↔ IsLeastOf (IsStructureFault (nodes_of bytes)) fault)
same_least_structure bytes fault spells =
    let same = same_least (structure_faults (nodes_of bytes)) (IsOwnFault (nodes_of bytes)) fault (same_own_faults (nodes_of bytes)) in
    (λ is. least_own bytes fault (same.0 is), λ is. same.1 (least_told bytes fault is))

pub same_sound : (bytes : List ℕ) → SpellsForest bytes (tree_of bytes) → ((structure_faults (nodes_of bytes) ≡ []) ↔ HasNone (IsStructureFault (nodes_of bytes)))
same_sound bytes spells =
    let same = same_none (structure_faults (nodes_of bytes)) (IsOwnFault (nodes_of bytes)) (same_own_faults (nodes_of bytes)) in
    (λ e c p is. elim (covered bytes c p is) [ inl own ↦ same.0 e c p own | inr t ↦ same.0 e Misplaced p t.1 ], λ none. same.1 (λ c p own. none c p (own_told bytes c p own)))

-- ---- fault by fault

pub told_structure : (bytes : List ℕ) (c : Cause) (p : ℕ) → SpellsForest bytes (tree_of bytes) → Contains (structure_faults (nodes_of bytes)) (fault_for c p) → IsStructureFault (nodes_of bytes) c p
told_structure bytes c p spells among = own_told bytes c p ((same_own_faults (nodes_of bytes) c p).0 among)

pub found_structure : (bytes : List ℕ) (c : Cause) (p : ℕ) → SpellsForest bytes (tree_of bytes) → IsStructureFault (nodes_of bytes) c p
    → Contains (structure_faults (nodes_of bytes)) (fault_for c p) ⊎ ((c ≡ ScopeBit) × Contains (structure_faults (nodes_of bytes)) (fault_for Misplaced p))
found_structure bytes c p spells is =
    let are = same_own_faults (nodes_of bytes) in
    elim (covered bytes c p is) [ inl own ↦ inl ((are c p).1 own) | inr t ↦ inr (t.0, (are Misplaced p).1 t.1) ]

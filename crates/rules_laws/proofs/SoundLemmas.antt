-- The nodes of a well-formed form set have no fault.
use Rattle.std.proofs.Common.{◌≡◌, ℕ, ◌+◌, ◌<◌, Bool, true, false, Option, List, [], ◌∷◌, ◌++◌, length, refl, sym, ap, subst, ◌∙◌, arith}
use Rattle.std.specs.Prelude.{Contains, ◌&&◌}
use Rattle.std.proofs.lemmas.Bool.{cond-true, false≢true, and_left, and_right, or_from, or_left, or_right, not_from_true, eq-eqb, ne_eqb}
use Rattle.hii_bytes.specs.declared.cause.Cause.TheVariants.{Misplaced}
use Rattle.ifr_opcodes.specs.declared.codes.TheConstants.{VALUE}
use Rattle.ifr_opcodes.specs.Forest.{Forest, none, node, flat, Mark, Ancestor, Node, AreNodes}
use Rattle.ifr_opcodes.specs.Opcode.{number, has_scope}
use Rattle.ifr_opcodes.specs.Rows.{is_operator, is_listed, is_short}
use Rattle.ifr_opcodes.proofs.RowLemmas.{operator_inside}
use Rattle.ifr_opcodes.proofs.TableLemmas.{and_first}
use Rattle.ifr_expr.specs.Trees.{siblings}
use Rattle.ifr_nodes.specs.Structure.{has_structure_fault, has_wrong_scope, is_condition, is_wanted, is_operand, lacks_wanted}
use Rattle.ifr_nodes.specs.Table.{row, class_of, class_around, admits, wants_expression}
use Rattle.ifr_nodes.specs.declared.table.Class.{Class}
use Rattle.ifr_nodes.specs.declared.table.Class.TheVariants.{OfExpression, OfNothing}
use Rattle.ifr_nodes.specs.declared.table.OpcodeRow.{OpcodeRow}
use Rattle.ifr_nodes.proofs.ClassLemmas.{class-other}
use Rattle.ifr_nodes.proofs.TableLemmas.{operator_row, guards_no_operator, wants_no_operator, wants_no_value}
use Rattle.rules_laws.specs.laws.Expressions.{AreFurther, IsGoodExpression}
use Rattle.rules_laws.specs.laws.WellFormed.{Beginning, an_expression, a_value, nothing_first, wanted_by, class_inside, IsGoodOpcode, StandsIn}
use Rattle.rules_laws.proofs.ExpressionLemmas.{behind, are_operators, good_is_clear}
use Rattle.rules_laws.proofs.RowLemmas.{admitted_plain, value_facts}
use Rattle.rules_laws.proofs.CleanLemmas.{IsClean, AreClean, no_fault, good_scope}
use Rattle.rules_laws.proofs.StandLemmas.{lacks, lacks_as_wanted, Stands, some_bytes, later, first_of, there, no_root, in_operator, as_condition, as_value}

-- ---- operators

begins_nothing : (op : List ℕ) (children : Forest) → is_operator (number op) ≡ true → lacks_wanted op children ≡ false
begins_nothing op children known = or_from _ _ (and_left _ _ (wants_no_operator (number op) known)) (and_left _ _ (wants_no_value op known))

-- the scope of an operator, which opens none in another's
operator_scope : (n : Node) (operand : Bool) → is_operator (number n.op) ≡ true → is_operand n ≡ operand → (operand && has_scope n.op) ≡ false → has_wrong_scope (row (number n.op)) (is_operand n) n.op ≡ false
operator_scope n operand known is free =
    ap (λ (r : Option OpcodeRow). has_wrong_scope r (is_operand n) n.op) (operator_row (number n.op) known) ∙ ap (λ (b : Bool). b && has_scope n.op) is ∙ free

operator_clean : (place : ℕ) (op : List ℕ) (children : Forest) (outer : List Ancestor) (a : Ancestor) → 4 < place → is_operator (number op) ≡ true → is_short op ≡ false
    → has_structure_fault (there place op children outer a) Misplaced ≡ false → (is_operator (number a.op) && has_scope op) ≡ false → (is_condition (there place op children outer a) ≡ true → IsGoodExpression place op children)
    → IsClean (there place op children outer a)
operator_clean place op children outer a low known long placed scoped good = record {
  fault = no_fault (there place op children outer a) (and_left _ _ (ne_eqb place 4 (λ e. omega arith))) (and_left _ _ (no_root place op children outer a)) (operator_inside op known) long placed
      (operator_scope (there place op children outer a) (is_operator (number a.op)) known (in_operator place op children outer a) scoped)
      (begins_nothing op children known);
  expression = λ is. good_is_clear place op children (good (and_first _ _ is));
}

-- the further operators of an expression
further_clean : (f : Forest) (place : ℕ) (outer : List Ancestor) (a : Ancestor) → AreNodes f → 4 < place → is_operator (number a.op) ≡ true → AreFurther f → ((m : Mark) → Contains (siblings place f) m → is_operator (number m.op) ≡ true) → AreClean place (outer ++ a ∷ []) f
further_clean none place outer a h low around further known = tt
further_clean (node op children rest) place outer a h low around further known =
    let its : is_operator (number op) ≡ true = known (record { place = place; op = op }) (0, omega arith, refl) in
    let bare : none ≡ children = sym (h.0.leaf further.1.0) in
    let in_scope : class_around (outer ++ a ∷ []) ≡ OfExpression = class-other outer a (guards_no_operator (number a.op) around) ∙ ap class_of (operator_row (number a.op) around) in
    let admitted : admits (class_around (outer ++ a ∷ [])) (number op) ≡ true = ap (λ (c : Class). admits c (number op)) in_scope ∙ its in
    let no_condition : is_condition (there place op children outer a) ≡ false = as_condition place op children outer a ∙ and_left _ _ (wants_no_operator (number a.op) around) in
    let more : 4 < place + length (flat (node op children none)) = omega arith in (
      operator_clean place op children outer a low its further.0 (and_right _ _ (and_right _ _ (not_from_true _ admitted))) (and_right _ _ further.1.0) (λ is. absurd (false≢true (sym no_condition ∙ is))),
      (
        subst (AreClean (place + length op) ((outer ++ a ∷ []) ++ record { place = place; op = op; children = children } ∷ [])) bare tt,
        further_clean rest (place + length (flat (node op children none))) outer a h.1.1 more around further.1.1 (λ m w. known m (behind (record { place = place; op = op }) (siblings (place + length (flat (node op children none))) rest) m w)),
      ),
    )

-- an expression where one is wanted
expression_clean : (place : ℕ) (op : List ℕ) (children : Forest) (outer : List Ancestor) (a : Ancestor) (class : Class) → AreNodes children → Stands an_expression class place outer a → IsGoodExpression place op children
    → IsClean (there place op children outer a) × AreClean (place + length op) ((outer ++ a ∷ []) ++ record { place = place; op = op; children = children } ∷ []) children
expression_clean place op children outer a class h s g =
    let known : is_operator (number op) ≡ true = are_operators place op children (record { place = place; op = op }) g (0, omega arith, refl) in
    let condition : is_condition (there place op children outer a) ≡ true = as_condition place op children outer a ∙ s.condition in
    let wanted : is_wanted (there place op children outer a) ≡ true = or_left _ _ condition in (
      operator_clean place op children outer a s.low known g.long (and_right _ _ (and_left _ _ (not_from_true _ wanted))) (and_left _ _ s.other) (λ is. g),
      further_clean children (place + length op) (outer ++ a ∷ []) (record { place = place; op = op; children = children }) h (omega (arith, s.low)) known g.further
          (λ m w. are_operators place op children m g (behind (record { place = place; op = op }) (siblings (place + length op) children) m w)),
    )

-- ---- other opcodes

-- what a scope begins with is there
pub not_lacking : (wanted : Beginning) (class : Class) (place : ℕ) (f : Forest) → StandsIn wanted class place f → lacks wanted f ≡ false
not_lacking an_expression class place none i = absurd cc
not_lacking a_value class place none i = absurd cc
not_lacking nothing_first class place f i = refl
not_lacking an_expression class place (node op children rest) i = and_right (is_listed (number op)) _ (not_from_true _ (are_operators place op children (record { place = place; op = op }) i.0 (0, omega arith, refl)))
not_lacking a_value class place (node op children rest) i = and_right (is_listed (number op)) _ (not_from_true _ (eq-eqb (number op) VALUE i.0))

other_clean : (place : ℕ) (op : List ℕ) (children : Forest) (outer : List Ancestor) (a : Ancestor) (wanted : Beginning) (class : Class) (around : Class) → Stands wanted class place outer a → IsGoodOpcode op → is_operator (number op) ≡ false
    → has_structure_fault (there place op children outer a) Misplaced ≡ false → StandsIn (wanted_by op) around (place + length op) children → IsClean (there place op children outer a)
other_clean place op children outer a wanted class around s g other placed inner = record {
  fault = no_fault (there place op children outer a) (and_left _ _ (ne_eqb place 4 (λ e. omega (arith, e, s.low)))) (and_left _ _ (no_root place op children outer a)) g.known g.long placed
      (good_scope (there place op children outer a) g (in_operator place op children outer a ∙ s.other))
      (lacks_as_wanted op children ∙ not_lacking (wanted_by op) around (place + length op) children inner);
  expression = λ is. absurd (false≢true (sym (and_right _ _ other) ∙ is));
}

pub value_begins : (op : List ℕ) → number op ≡ VALUE → (is_operator (number op) ≡ false) × (wanted_by op ≡ an_expression) × ((class : Class) → class_inside class op ≡ OfNothing)
value_begins op is = (
  ap is_operator is ∙ value_facts.1,
  cond-true (wants_expression (number op)) _ _ (ap wants_expression is),
  λ class. ap (λ (code : ℕ). class_inside class (code ∷ [])) is ∙ value_facts.0,
)

-- ---- the induction

pub clean_inside : (f : Forest) (wanted : Beginning) (class : Class) (place : ℕ) (outer : List Ancestor) (a : Ancestor) → AreNodes f → Stands wanted class place outer a → StandsIn wanted class place f → AreClean place (outer ++ a ∷ []) f
clean_inside none wanted class place outer a h s i = tt
clean_inside (node op children rest) an_expression class place outer a h s i =
    let its = expression_clean place op children outer a class h.1.0 s i.0 in
    let more = some_bytes op children rest h in
    (its.0, (its.1, clean_inside rest nothing_first class (place + length (flat (node op children none))) outer a h.1.1 (later an_expression class place (length (flat (node op children none))) outer a more s) i.1))
clean_inside (node op children rest) a_value class place outer a h s i =
    let value = value_begins op i.0 in
    let wanted : is_wanted (there place op children outer a) ≡ true = or_right _ _ (as_value place op children outer a ∙ s.value) in
    let inner : StandsIn (wanted_by op) OfNothing (place + length op) children = subst (λ (w : Beginning). StandsIn w OfNothing (place + length op) children) (sym value.1) i.1.1.0 in
    let first = first_of class place op children (outer ++ a ∷ []) s.around s.plain value.0 (omega (arith, s.low)) in
    let begins : Stands (wanted_by op) OfNothing (place + length op) (outer ++ a ∷ []) (record { place = place; op = op; children = children }) =
    subst (λ (c : Class). Stands (wanted_by op) c (place + length op) (outer ++ a ∷ []) (record { place = place; op = op; children = children })) (value.2 class) first in
    let more = some_bytes op children rest h in (
      other_clean place op children outer a a_value class OfNothing s i.1.0 value.0 (and_right _ _ (and_left _ _ (not_from_true _ wanted))) inner,
      (
        clean_inside children (wanted_by op) OfNothing (place + length op) (outer ++ a ∷ []) (record { place = place; op = op; children = children }) h.1.0 begins inner,
        clean_inside rest nothing_first class (place + length (flat (node op children none))) outer a h.1.1 (later a_value class place (length (flat (node op children none))) outer a more s) i.1.1.1,
      ),
    )
clean_inside (node op children rest) nothing_first class place outer a h s i =
    let other = admitted_plain class (number op) s.plain i.0 in
    let admitted : admits (class_around (outer ++ a ∷ [])) (number op) ≡ true = ap (λ (c : Class). admits c (number op)) s.around ∙ i.0 in
    let first = first_of class place op children (outer ++ a ∷ []) s.around s.plain other (omega (arith, s.low)) in
    let more = some_bytes op children rest h in (
      other_clean place op children outer a nothing_first class (class_inside class op) s i.1.0 other (and_right _ _ (and_right _ _ (not_from_true _ admitted))) i.1.1.0,
      (
        clean_inside children (wanted_by op) (class_inside class op) (place + length op) (outer ++ a ∷ []) (record { place = place; op = op; children = children }) h.1.0 first i.1.1.0,
        clean_inside rest nothing_first class (place + length (flat (node op children none))) outer a h.1.1 (later nothing_first class place (length (flat (node op children none))) outer a more s) i.1.1.1,
      ),
    )

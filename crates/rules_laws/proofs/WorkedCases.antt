-- A well-formed form set, and some that are not, worked out by hand.
use Rattle.std.proofs.Common.{◌≡◌, ℕ, ◌+◌, ◌-◌, Some, List, [], ◌∷◌, replicate, refl, sym, subst, ◌∙◌, arith}
use Rattle.std.proofs.lemmas.Bool.{false≢true, true≢false}
use Rattle.hii_bytes.specs.Numbers.{number_in}
use Rattle.ifr_opcodes.specs.declared.codes.TheConstants.{FORM_SET, FORM, TEXT, CHECKBOX, ONE_OF, ONE_OF_OPTION, DEFAULT, SUPPRESS_IF, LOCKED, TRUE}
use Rattle.ifr_opcodes.specs.declared.kinds.TheConstants.{TYPE_OTHER}
use Rattle.ifr_opcodes.specs.Forest.{Forest, none, node}
use Rattle.ifr_opcodes.specs.Opcode.{number}
use Rattle.ifr_opcodes.specs.Rows.{row_of, operands, is_question_number, is_statement_number, is_store_number, is_condition_number, is_ignored}
use Rattle.ifr_expr.specs.Trees.{leaf}
use Rattle.ifr_nodes.specs.Table.{row}
use Rattle.ifr_nodes.specs.declared.table.Class.TheVariants.{OfFormSet, OfForm, OfNothing, OfQuestion}
use Rattle.ifr_nodes.specs.declared.table.OpcodeRow.{OpcodeRow}
use Rattle.ifr_nodes.specs.declared.table.Scope.TheVariants.{Always, Sometimes, Never}
use Rattle.rules_laws.specs.laws.Expressions.{IsGoodExpression}
use Rattle.rules_laws.specs.laws.WellFormed.{an_expression, a_value, nothing_first, FitsScope, IsGoodOpcode, IsFormSet}
use Rattle.rules_laws.proofs.ExpressionLemmas.{are_operators}

-- an opcode of this number and length with fields of zeros, and one with Scope
abbrev op : ℕ → ℕ → List ℕ
op code size = code ∷ size ∷ replicate (size - 2) 0

abbrev scope : ℕ → ℕ → List ℕ
scope code size = code ∷ (size + 128) ∷ replicate (size - 2) 0

-- without children and with them, before others
abbrev single : ℕ → ℕ → Forest → Forest
single code size rest = node (op code size) none rest

abbrev around : ℕ → ℕ → Forest → Forest → Forest
around code size children rest = node (scope code size) children rest

abbrev form_set : Forest → Forest
form_set f = around FORM_SET 23 f none

abbrev form : Forest → Forest
form f = form_set (around FORM 6 f none)

-- ---- one that is well-formed

scope_fits : (o : List ℕ) (r : OpcodeRow) → IsGoodOpcode o → row (number o) ≡ Some r → FitsScope r.scope o
scope_fits o r g found =
    let same : g.in_table ≡ r = cc (sym g.found ∙ found) in
    subst (λ (x : OpcodeRow). FitsScope x.scope o) same g.scoped

-- a checkbox, and a guard with its condition around another
guarded_checkbox : IsFormSet (form (single CHECKBOX 14 (around SUPPRESS_IF 2 (single TRUE 2 (single CHECKBOX 14 none)) none)))
unfolding row row_of is_statement_number is_question_number is_store_number is_condition_number is_ignored operands
guarded_checkbox = (refl, (the_form_set, ((refl, (the_form, ((refl, (checkbox, (refl, (refl, (guard, ((true_alone, (refl, (checkbox, (refl, refl)))), refl)))))), refl))), refl)))
  where
    the_form_set : IsGoodOpcode (scope FORM_SET 23)
    the_form_set = record { known = refl; long = refl; in_table = record { scope = Always; class = OfFormSet }; found = refl; scoped = refl }

    the_form : IsGoodOpcode (scope FORM 6)
    the_form = record { known = refl; long = refl; in_table = record { scope = Always; class = OfForm }; found = refl; scoped = refl }

    checkbox : IsGoodOpcode (op CHECKBOX 14)
    checkbox = record { known = refl; long = refl; in_table = record { scope = Sometimes; class = OfQuestion }; found = refl; scoped = tt }

    guard : IsGoodOpcode (scope SUPPRESS_IF 2)
    guard = record { known = refl; long = refl; in_table = record { scope = Always; class = OfNothing }; found = refl; scoped = refl }

    true_alone : IsGoodExpression 49 (op TRUE 2) none
    true_alone = record { long = refl; further = tt; tree = leaf (record { place = 49; op = op TRUE 2 }); means = record { spelled = refl; fitting = refl }; within = omega arith }

-- ---- some that are not

no_expression : an_expression ≡ nothing_first → ⊥
no_expression e = cc

no_value : a_value ≡ nothing_first → ⊥
no_value e = cc

not_alone : (o : List ℕ) (children rest : Forest) → node o children rest ≡ none → ⊥
not_alone o children rest e = cc

form_in_form : IsFormSet (form (around FORM 6 none none)) → ⊥
unfolding row row_of is_statement_number is_question_number is_store_number is_condition_number is_ignored operands
form_in_form h = false≢true h.1.1.0.1.1.0.0

statement_in_form_set : IsFormSet (form_set (single CHECKBOX 14 none)) → ⊥
unfolding row row_of is_statement_number is_question_number is_store_number is_condition_number is_ignored operands
statement_in_form_set h = false≢true h.1.1.0.0

option_in_checkbox : IsFormSet (form (around CHECKBOX 14 (single ONE_OF_OPTION 7 none) none)) → ⊥
unfolding row row_of is_statement_number is_question_number is_store_number is_condition_number is_ignored operands
option_in_checkbox h = false≢true h.1.1.0.1.1.0.1.1.0.0

default_in_guard : IsFormSet (form (around ONE_OF 17 (around SUPPRESS_IF 2 (single TRUE 2 (single DEFAULT 6 none)) none) none)) → ⊥
unfolding row row_of is_statement_number is_question_number is_store_number is_condition_number is_ignored operands
default_in_guard h = false≢true h.1.1.0.1.1.0.1.1.0.1.1.0.1.0

operator_in_form : IsFormSet (form (single TRUE 2 none)) → ⊥
unfolding row row_of is_statement_number is_question_number is_store_number is_condition_number is_ignored operands
operator_in_form h = false≢true h.1.1.0.1.1.0.0

question_in_text : IsFormSet (form (around TEXT 8 (single CHECKBOX 14 none) none)) → ⊥
unfolding row row_of is_statement_number is_question_number is_store_number is_condition_number is_ignored operands
question_in_text h = false≢true h.1.1.0.1.1.0.1.1.0.0

second_root : (f : Forest) → IsFormSet (around FORM_SET 23 f (form_set none)) → ⊥
second_root f h = not_alone (scope FORM_SET 23) none none h.1.1.1

form_as_root : (f : Forest) → IsFormSet (around FORM 6 f none) → ⊥
form_as_root f h = absurd (let e = h.0 in omega arith)

guard_without_condition : IsFormSet (form (around SUPPRESS_IF 2 none none)) → ⊥
unfolding row row_of is_statement_number is_question_number is_store_number is_condition_number is_ignored operands
guard_without_condition h = no_expression h.1.1.0.1.1.0.1.1.0

guard_of_statement : IsFormSet (form (around SUPPRESS_IF 2 (single CHECKBOX 14 none) none)) → ⊥
unfolding row row_of is_statement_number is_question_number is_store_number is_condition_number is_ignored operands
guard_of_statement h = false≢true (are_operators 35 (op CHECKBOX 14) none (record { place = 35; op = op CHECKBOX 14 }) h.1.1.0.1.1.0.1.1.0.0 (0, omega arith, refl))

default_without_value : IsFormSet (form (around CHECKBOX 14 (node (DEFAULT ∷ 133 ∷ 0 ∷ 0 ∷ TYPE_OTHER ∷ []) none none) none)) → ⊥
unfolding row row_of is_statement_number is_question_number is_store_number is_condition_number is_ignored operands number_in
default_without_value h = no_value h.1.1.0.1.1.0.1.1.0.1.1.0

short_form : IsFormSet (form_set (around FORM 5 none none)) → ⊥
unfolding row_of
short_form h = true≢false h.1.1.0.1.0.long

locked_with_scope : IsFormSet (form (around CHECKBOX 14 (around LOCKED 2 none none) none)) → ⊥
unfolding row row_of is_statement_number is_question_number is_store_number is_condition_number is_ignored operands
locked_with_scope h = true≢false (scope_fits (scope LOCKED 2) (record { scope = Never; class = OfNothing }) h.1.1.0.1.1.0.1.1.0.1.0 refl)

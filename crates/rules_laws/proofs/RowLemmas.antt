-- What the rows of opcodes say of numbers that are listed, and of operators.
use Rattle.std.proofs.Common.{◌≡◌, ℕ, Bool, true, false, Option, Some, None, is_some, List, [], ◌∷◌, ◌++◌, map, refl, sym, ap, ◌∙◌, inl, inr}
use Rattle.std.specs.Prelude.{◌==◌, ◌||◌, not}
use Rattle.std.proofs.lemmas.Bool.{cases_Bool, cond-true, cond-false, eqb-true, false≢true}
use Rattle.ifr_opcodes.specs.declared.codes.TheConstants.{FORM_SET, VALUE, DEFAULT}
use Rattle.ifr_opcodes.specs.Opcode.{number}
use Rattle.ifr_opcodes.specs.Rows.{operands, is_operator, row_of, is_listed, is_question_number, is_statement_number, is_store_number, is_condition_number, is_ignored}
use Rattle.ifr_opcodes.proofs.RowLemmas.{none_takes}
use Rattle.ifr_opcodes.specs.Forest.{Ancestor}
use Rattle.ifr_opcodes.proofs.TableLemmas.{numbers, and_first, of_kind, not_of_kind}
use Rattle.ifr_nodes.specs.Guards.{is_guard}
use Rattle.ifr_nodes.specs.Table.{row, class_of, guarded, admits, wants_expression, wants_value, class_around}
use Rattle.ifr_nodes.specs.declared.table.Class.{Class}
use Rattle.ifr_nodes.specs.declared.table.Class.TheVariants.{OfFormSet, OfForm, OfText, OfQuestion, OfChoice, OfOptions, OfOption, OfExpression, OfNothing}
use Rattle.ifr_nodes.specs.declared.table.OpcodeRow.{OpcodeRow}
use Rattle.ifr_nodes.specs.declared.table.Scope.TheVariants.{Always}
use Rattle.ifr_nodes.proofs.ClassLemmas.{class-guard, class-other}
use Rattle.ifr_nodes.proofs.TableLemmas.{class_fact}
use Rattle.rules_laws.specs.laws.WellFormed.{class_inside}

-- ---- rows

some_row : (o : Option OpcodeRow) → is_some o ≡ true → (r : OpcodeRow) × (o ≡ Some r)
some_row None e = absurd (false≢true e)
some_row (Some r) e = (r, refl)

listed_open : map (λ c. not (is_listed c) || is_some (row c)) numbers ≡ map (λ c. true) numbers
unfolding row row_of
listed_open = refl

none_listed : (code : ℕ) → row_of code ≡ None → is_listed code ≡ false
none_listed code none = rw none refl

-- a number that is known has a row
pub listed_row : (code : ℕ) → is_listed code ≡ true → (r : OpcodeRow) × (row code ≡ Some r)
listed_row code is = some_row (row code) (of_kind is_listed (λ c. is_some (row c)) listed_open none_listed code is)

-- ---- scopes that are not an operator's

-- whether a scope of the class is none of an operator
abbrev pub is_plain : Class → Bool
is_plain OfExpression = false
is_plain _ = true

none_operates : (code : ℕ) → row_of code ≡ None → is_operator code ≡ false
none_operates code none = ap (λ (o : Option ℕ). is_some o) (none_takes code none)

no_operators_held : (c : Class) → is_plain c ≡ true → map (λ k. not (is_operator k) || not (admits c k)) numbers ≡ map (λ k. true) numbers
unfolding operands row_of is_statement_number is_question_number is_store_number is_condition_number is_ignored
no_operators_held OfFormSet plain = refl
no_operators_held OfForm plain = refl
no_operators_held OfText plain = refl
no_operators_held OfQuestion plain = refl
no_operators_held OfChoice plain = refl
no_operators_held OfOptions plain = refl
no_operators_held OfOption plain = refl
no_operators_held OfExpression plain = absurd (false≢true plain)
no_operators_held OfNothing plain = refl

-- none admits an operator
pub admitted_plain : (c : Class) (code : ℕ) → is_plain c ≡ true → admits c code ≡ true → is_operator code ≡ false
admitted_plain c code plain admitted = not_of_kind is_operator (admits c) (no_operators_held c plain) none_operates code admitted

guarded_plain : (c : Class) → is_plain c ≡ true → is_plain (guarded c) ≡ true
guarded_plain OfFormSet e = e
guarded_plain OfForm e = e
guarded_plain OfText e = e
guarded_plain OfQuestion e = e
guarded_plain OfChoice e = refl
guarded_plain OfOptions e = e
guarded_plain OfOption e = e
guarded_plain OfExpression e = e
guarded_plain OfNothing e = e

plain_or_operator : map (λ c. is_plain (class_of (row c)) || is_operator c) numbers ≡ map (λ c. true) numbers
unfolding row operands row_of
plain_or_operator = refl

class_plain : (code : ℕ) → is_operator code ≡ false → is_plain (class_of (row code)) ≡ true
class_plain code other =
    let one : is_plain (class_of (row code)) || is_operator code ≡ true = class_fact (λ c class. is_plain class || is_operator c) plain_or_operator (λ c. refl) code in
    elim (cases_Bool (is_plain (class_of (row code)))) [
      | inl e ↦ e
      | inr e ↦ absurd (false≢true (sym other ∙ ap (λ (b : Bool). b || is_operator code) (sym e) ∙ one))
    ]

-- so none stands in another's scope, where that is none of an operator
pub inside_plain : (c : Class) (op : List ℕ) → is_plain c ≡ true → is_operator (number op) ≡ false → is_plain (class_inside c op) ≡ true
inside_plain c op plain other = elim (cases_Bool (is_guard (number op))) [
  | inl guards ↦ ap is_plain (cond-true (is_guard (number op)) (guarded c) (class_of (row (number op))) guards) ∙ guarded_plain c plain
  | inr free ↦
      ap is_plain (cond-false (is_guard (number op)) (guarded c) (class_of (row (number op))) free) ∙ class_plain (number op) other
]

-- the class of a scope, by what is around it
pub class_around-inside : (path : List Ancestor) (a : Ancestor) → class_around (path ++ a ∷ []) ≡ class_inside (class_around path) a.op
class_around-inside path a = elim (cases_Bool (is_guard (number a.op))) [
  | inl guards ↦ class-guard path a guards ∙ sym (cond-true (is_guard (number a.op)) (guarded (class_around path)) (class_of (row (number a.op))) guards)
  | inr free ↦ class-other path a free ∙ sym (cond-false (is_guard (number a.op)) (guarded (class_around path)) (class_of (row (number a.op))) free)
]

-- ---- some opcodes

pub form_set_facts : (row FORM_SET ≡ Some (record { scope = Always; class = OfFormSet })) × (is_operator FORM_SET ≡ false) × (wants_expression FORM_SET ≡ false)
unfolding row row_of operands is_condition_number
form_set_facts = (refl, refl, refl)

pub value_facts : (class_of (row VALUE) ≡ OfNothing) × (is_operator VALUE ≡ false)
unfolding row row_of operands
value_facts = (refl, refl)

default_wants : wants_expression DEFAULT ≡ false
unfolding is_condition_number row_of
default_wants = refl

-- what begins with a VALUE begins with no expression
pub value_alone : (op : List ℕ) → wants_value op ≡ true → wants_expression (number op) ≡ false
value_alone op wants = ap wants_expression (eqb-true (number op) DEFAULT (and_first (number op == DEFAULT) _ wants)) ∙ default_wants

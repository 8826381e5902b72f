-- What the rows of opcodes say of scopes, told once over the rows.
use Rattle.std.proofs.Common.{◌≡◌, ◌⊎◌, ℕ, Bool, true, false, cond, eqb, Option, Some, None, is_some, List, map, refl, sym, ap, ◌∙◌, inl, inr}
use Rattle.std.specs.Prelude.{◌||◌, ◌==◌, not}
use Rattle.std.proofs.lemmas.Bool.{cases_Bool, cond-true, cond-false, eqb-true, ne_eqb, or_parts, false≢true}
use Rattle.ifr_opcodes.specs.declared.codes.TheConstants.{FORM_SET, FORM, SUBTITLE, DEFAULT, VALUE, RULE, SUPPRESS_IF, GRAY_OUT_IF, DISABLE_IF}
use Rattle.ifr_opcodes.specs.Opcode.{number}
use Rattle.ifr_opcodes.specs.Rows.{row_of, is_operator, operands, is_question_number, is_statement_number, is_store_number, is_condition_number, is_ignored}
use Rattle.ifr_opcodes.proofs.RowLemmas.{none_takes}
use Rattle.ifr_opcodes.proofs.StatementLemmas.{none_denies, none_states}
use Rattle.ifr_opcodes.proofs.TableLemmas.{numbers, agree, not_of_kind, not_this}
use Rattle.ifr_nodes.specs.Guards.{is_guard}
use Rattle.ifr_nodes.specs.Table.{row, wants_expression, wants_value, class_of, guarded, admits}
use Rattle.ifr_nodes.specs.declared.table.OpcodeRow.{OpcodeRow}
use Rattle.ifr_nodes.specs.declared.table.Class.{Class}
use Rattle.ifr_nodes.specs.declared.table.Class.TheVariants.{OfFormSet, OfForm, OfText, OfQuestion, OfChoice, OfOptions, OfOption, OfExpression, OfNothing}
use Rattle.ifr_nodes.specs.declared.table.Scope.TheVariants.{Outermost}

-- ---- the rows

pub none_opens : (code : ℕ) → row_of code ≡ None → row code ≡ None
unfolding row
none_opens code none = rw none refl

abbrev as_operator : Option OpcodeRow
as_operator = Some (record { scope = Outermost; class = OfExpression })

operators_open : map (λ c. cond (is_operator c) (row c) as_operator) numbers ≡ map (λ c. as_operator) numbers
unfolding row operands row_of
operators_open = refl

pub operator_row : (code : ℕ) → is_operator code ≡ true → row code ≡ Some (record { scope = Outermost; class = OfExpression })
operator_row code operator =
    sym (cond-true (is_operator code) (row code) as_operator operator)
    ∙ agree (λ c. cond (is_operator c) (row c) as_operator) (λ c. as_operator) operators_open
    (λ c none. cond-false (is_operator c) (row c) as_operator (ap (λ (o : Option ℕ). is_some o) (none_takes c none))) code

-- what holds of the number of each row and the class of its scope holds of any number, where it does of a number without a row
pub class_fact : (holds : ℕ → Class → Bool) → map (λ c. holds c (class_of (row c))) numbers ≡ map (λ c. true) numbers → ((code : ℕ) → holds code OfNothing ≡ true)
    → (code : ℕ) → holds code (class_of (row code)) ≡ true
class_fact holds each of_nothing code =
    agree (λ c. holds c (class_of (row c))) (λ c. true) each (λ c none. ap (λ (o : Option OpcodeRow). holds c (class_of o)) (none_opens c none) ∙ of_nothing c) code

-- ---- the classes of the form set and of forms

abbrev is_of_form_set : Class → Bool
is_of_form_set OfFormSet = true
is_of_form_set _ = false

abbrev is_of_form : Class → Bool
is_of_form OfForm = true
is_of_form _ = false

form_sets_open : map (λ c. not (is_of_form_set (class_of (row c))) || (c == FORM_SET)) numbers ≡ map (λ c. true) numbers
unfolding row row_of
form_sets_open = refl

pub of_form_set : (code : ℕ) → class_of (row code) ≡ OfFormSet → code ≡ FORM_SET
of_form_set code e = eqb-true code FORM_SET (ap (λ (c : Class). not (is_of_form_set c) || (code == FORM_SET)) (sym e) ∙ class_fact (λ c class. not (is_of_form_set class) || (c == FORM_SET)) form_sets_open (λ c. refl) code)

forms_open : map (λ c. not (is_of_form (class_of (row c))) || ((c == FORM) || (c == SUBTITLE))) numbers ≡ map (λ c. true) numbers
unfolding row row_of
forms_open = refl

pub of_form : (code : ℕ) → class_of (row code) ≡ OfForm → (code ≡ FORM) ⊎ (code ≡ SUBTITLE)
of_form code e =
    let one : (code == FORM) || (code == SUBTITLE) ≡ true = ap (λ (c : Class). not (is_of_form c) || ((code == FORM) || (code == SUBTITLE))) (sym e) ∙ class_fact (λ c class. not (is_of_form class) || ((c == FORM) || (c == SUBTITLE))) forms_open (λ c. refl) code in
    elim (cases_Bool (code == FORM)) [
      | inl form ↦ inl (eqb-true code FORM form)
      | inr other ↦ inr (eqb-true code SUBTITLE (ap (λ (b : Bool). b || (code == SUBTITLE)) (sym other) ∙ one))
    ]

pub holds_form_set : (c : Class) → admits c FORM_SET ≡ true → ⊥
unfolding is_statement_number is_question_number is_store_number is_condition_number is_ignored operands row_of
holds_form_set OfFormSet e = false≢true e
holds_form_set OfForm e = false≢true e
holds_form_set OfText e = false≢true e
holds_form_set OfQuestion e = false≢true e
holds_form_set OfChoice e = false≢true e
holds_form_set OfOptions e = false≢true e
holds_form_set OfOption e = false≢true e
holds_form_set OfExpression e = false≢true e
holds_form_set OfNothing e = false≢true e

pub holds_form : (c : Class) → admits c FORM ≡ true → c ≡ OfFormSet
unfolding is_statement_number is_question_number is_store_number is_condition_number is_ignored operands row_of
holds_form OfFormSet e = refl
holds_form OfForm e = absurd (false≢true e)
holds_form OfText e = absurd (false≢true e)
holds_form OfQuestion e = absurd (false≢true e)
holds_form OfChoice e = absurd (false≢true e)
holds_form OfOptions e = absurd (false≢true e)
holds_form OfOption e = absurd (false≢true e)
holds_form OfExpression e = absurd (false≢true e)
holds_form OfNothing e = absurd (false≢true e)

pub holds_rule : (c : Class) → admits c RULE ≡ true → c ≡ OfForm
unfolding is_statement_number is_question_number is_store_number is_condition_number is_ignored operands row_of
holds_rule OfFormSet e = absurd (false≢true e)
holds_rule OfForm e = refl
holds_rule OfText e = absurd (false≢true e)
holds_rule OfQuestion e = absurd (false≢true e)
holds_rule OfChoice e = absurd (false≢true e)
holds_rule OfOptions e = absurd (false≢true e)
holds_rule OfOption e = absurd (false≢true e)
holds_rule OfExpression e = absurd (false≢true e)
holds_rule OfNothing e = absurd (false≢true e)

none_held : (c : Class) → map (λ k. not (is_statement_number k) || not (admits c k)) numbers ≡ map (λ k. true) numbers → (code : ℕ) → is_statement_number code ≡ true → admits c code ≡ true → ⊥
none_held c each code is held = false≢true (sym (not_of_kind is_statement_number (admits c) each none_states code held) ∙ is)

-- a statement stands in the scope of a form alone, or of a subtitle
pub holds_statement : (c : Class) (code : ℕ) → is_statement_number code ≡ true → admits c code ≡ true → c ≡ OfForm
unfolding is_question_number is_store_number is_condition_number is_ignored operands is_statement_number row_of
holds_statement OfFormSet code is held = absurd (none_held OfFormSet refl code is held)
holds_statement OfForm code is held = refl
holds_statement OfText code is held = absurd (none_held OfText refl code is held)
holds_statement OfQuestion code is held = absurd (none_held OfQuestion refl code is held)
holds_statement OfChoice code is held = absurd (none_held OfChoice refl code is held)
holds_statement OfOptions code is held = absurd (none_held OfOptions refl code is held)
holds_statement OfOption code is held = absurd (none_held OfOption refl code is held)
holds_statement OfExpression code is held = absurd (none_held OfExpression refl code is held)
holds_statement OfNothing code is held = absurd (none_held OfNothing refl code is held)

pub holds_subtitle : (c : Class) → admits c SUBTITLE ≡ true → c ≡ OfForm
unfolding is_statement_number is_question_number is_store_number is_condition_number is_ignored operands row_of
holds_subtitle OfFormSet e = absurd (false≢true e)
holds_subtitle OfForm e = refl
holds_subtitle OfText e = absurd (false≢true e)
holds_subtitle OfQuestion e = absurd (false≢true e)
holds_subtitle OfChoice e = absurd (false≢true e)
holds_subtitle OfOptions e = absurd (false≢true e)
holds_subtitle OfOption e = absurd (false≢true e)
holds_subtitle OfExpression e = absurd (false≢true e)
holds_subtitle OfNothing e = absurd (false≢true e)

pub guarded_form_set : (c : Class) → guarded c ≡ OfFormSet → c ≡ OfFormSet
guarded_form_set OfChoice e = absurd cc
guarded_form_set OfFormSet e = e
guarded_form_set OfForm e = e
guarded_form_set OfText e = e
guarded_form_set OfQuestion e = e
guarded_form_set OfOptions e = e
guarded_form_set OfOption e = e
guarded_form_set OfExpression e = e
guarded_form_set OfNothing e = e

pub guarded_form : (c : Class) → guarded c ≡ OfForm → c ≡ OfForm
guarded_form OfChoice e = absurd cc
guarded_form OfFormSet e = e
guarded_form OfForm e = e
guarded_form OfText e = e
guarded_form OfQuestion e = e
guarded_form OfOptions e = e
guarded_form OfOption e = e
guarded_form OfExpression e = e
guarded_form OfNothing e = e

-- ---- operators

pub no_operators : (is_operator FORM_SET ≡ false) × (is_operator FORM ≡ false) × (is_operator RULE ≡ false) × (is_operator SUBTITLE ≡ false) × (is_operator VALUE ≡ false)
unfolding operands row_of
no_operators = (refl, refl, refl, refl, refl)

no_guards : (is_operator SUPPRESS_IF ≡ false) × (is_operator GRAY_OUT_IF ≡ false) × (is_operator DISABLE_IF ≡ false) × (is_operator DEFAULT ≡ false)
unfolding operands row_of
no_guards = (refl, refl, refl, refl)

-- the number of an operator is not that of something else
other_number : (code other : ℕ) → is_operator other ≡ false → is_operator code ≡ true → eqb code other ≡ false
other_number code other plain operator = ne_eqb code other (λ e. false≢true (sym plain ∙ ap is_operator (sym e) ∙ operator))

-- what begins with an expression, or with a VALUE, is no operator
pub guards_no_operator : (code : ℕ) → is_operator code ≡ true → is_guard code ≡ false
guards_no_operator code operator = rw (other_number code SUPPRESS_IF no_guards.0 operator, other_number code GRAY_OUT_IF no_guards.1 operator, other_number code DISABLE_IF no_guards.2 operator) refl

no_condition_operates : map (λ c. not (is_condition_number c) || not (is_operator c)) numbers ≡ map (λ c. true) numbers
unfolding is_condition_number operands row_of
no_condition_operates = refl

pub conditions_no_operator : (code : ℕ) → is_operator code ≡ true → is_condition_number code ≡ false
conditions_no_operator code operator = not_of_kind is_condition_number is_operator no_condition_operates none_denies code operator

pub wants_no_operator : (code : ℕ) → is_operator code ≡ true → wants_expression code ≡ false
wants_no_operator code operator =
    rw (other_number code SUPPRESS_IF no_guards.0 operator, other_number code GRAY_OUT_IF no_guards.1 operator, other_number code DISABLE_IF no_guards.2 operator, other_number code RULE no_operators.2 operator, other_number code VALUE no_operators.4 operator, conditions_no_operator code operator) refl

pub wants_no_value : (op : List ℕ) → is_operator (number op) ≡ true → wants_value op ≡ false
wants_no_value op operator = rw (other_number (number op) DEFAULT no_guards.3 operator) refl

-- ---- what stands in the scope of a question

-- the classes of the scopes in which no statement stands
abbrev pub is_inner : Class → Bool
is_inner OfFormSet = false
is_inner OfForm = false
is_inner OfText = false
is_inner _ = true

-- whether this is the number of a statement, or of what statements stand in
abbrev pub is_outer : ℕ → Bool
is_outer code = (code == FORM_SET) || ((code == FORM) || is_statement_number code)

none_outer : (code : ℕ) → row_of code ≡ None → is_outer code ≡ false
none_outer code none = rw (not_this FORM_SET code refl none, not_this FORM code refl none, none_states code none) refl

not_admitted : (c : Class) → is_inner c ≡ true → map (λ k. not (is_outer k) || not (admits c k)) numbers ≡ map (λ k. true) numbers
unfolding is_statement_number is_question_number is_store_number is_condition_number is_ignored operands row_of
not_admitted OfFormSet e = absurd (false≢true e)
not_admitted OfForm e = absurd (false≢true e)
not_admitted OfText e = absurd (false≢true e)
not_admitted OfQuestion e = refl
not_admitted OfChoice e = refl
not_admitted OfOptions e = refl
not_admitted OfOption e = refl
not_admitted OfExpression e = refl
not_admitted OfNothing e = refl

-- what is admitted there is none of them
pub inner_is_not_outer : (c : Class) (code : ℕ) → is_inner c ≡ true → admits c code ≡ true → is_outer code ≡ false
inner_is_not_outer c code inner held = not_of_kind is_outer (admits c) (not_admitted c inner) none_outer code held

pub guarded_inner : (c : Class) → is_inner c ≡ true → is_inner (guarded c) ≡ true
guarded_inner OfFormSet e = e
guarded_inner OfForm e = e
guarded_inner OfText e = e
guarded_inner OfQuestion e = e
guarded_inner OfChoice e = refl
guarded_inner OfOptions e = e
guarded_inner OfOption e = e
guarded_inner OfExpression e = e
guarded_inner OfNothing e = e

-- the scope of anything else is one of these classes
inner_or_outer : map (λ c. is_inner (class_of (row c)) || is_outer c) numbers ≡ map (λ c. true) numbers
unfolding row is_statement_number row_of
inner_or_outer = refl

pub other_is_inner : (code : ℕ) → is_outer code ≡ false → is_inner (class_of (row code)) ≡ true
other_is_inner code other =
    let one : is_inner (class_of (row code)) || is_outer code ≡ true = class_fact (λ c class. is_inner class || is_outer c) inner_or_outer (λ c. refl) code in
    elim (cases_Bool (is_inner (class_of (row code)))) [
      | inl e ↦ e
      | inr e ↦ absurd (false≢true (sym other ∙ ap (λ (b : Bool). b || is_outer code) (sym e) ∙ one))
    ]

-- so is that of a question
questions_inner : map (λ c. is_inner (class_of (row c)) || not (is_question_number c)) numbers ≡ map (λ c. true) numbers
unfolding row is_question_number row_of
questions_inner = refl

pub question_is_inner : (code : ℕ) → is_question_number code ≡ true → is_inner (class_of (row code)) ≡ true
question_is_inner code is =
    let one : is_inner (class_of (row code)) || not (is_question_number code) ≡ true = class_fact (λ c class. is_inner class || not (is_question_number c)) questions_inner (λ c. refl) code in
    elim (cases_Bool (is_inner (class_of (row code)))) [
      | inl e ↦ e
      | inr e ↦ absurd (false≢true (ap not (sym is) ∙ ap (λ (b : Bool). b || not (is_question_number code)) (sym e) ∙ one))
    ]

-- statements are among them
pub no_statement : (code : ℕ) → is_outer code ≡ false → is_statement_number code ≡ false
no_statement code other = (or_parts (code == FORM) (is_statement_number code) (or_parts (code == FORM_SET) ((code == FORM) || is_statement_number code) other).1).1

-- an operator, a VALUE and a guard are none of them
apart_outer : map (λ c. not (is_outer c) || not (is_operator c)) numbers ≡ map (λ c. true) numbers
unfolding is_statement_number operands row_of
apart_outer = refl

pub operator_is_inner : (code : ℕ) → is_operator code ≡ true → is_outer code ≡ false
operator_is_inner code operator = not_of_kind is_outer is_operator apart_outer none_outer code operator

pub value_is_inner : is_outer VALUE ≡ false
unfolding is_statement_number row_of
value_is_inner = refl

guards_apart : map (λ c. not (is_outer c) || not (is_guard c)) numbers ≡ map (λ c. true) numbers
unfolding is_statement_number row_of
guards_apart = refl

pub no_guard : (code : ℕ) → is_statement_number code ≡ true → is_guard code ≡ false
no_guard code is = elim (cases_Bool (is_guard code)) [
  | inr e ↦ e
  | inl guards ↦ absurd (false≢true (sym (no_statement code (not_of_kind is_outer is_guard guards_apart none_outer code guards)) ∙ is))
]

-- ---- what a statement is not

no_form_set : is_statement_number FORM_SET ≡ false
unfolding is_statement_number is_question_number row_of
no_form_set = refl

-- a statement is no form set, no operator and no VALUE
pub statement_apart : (code : ℕ) → is_statement_number code ≡ true → (eqb code FORM_SET ≡ false) × (is_operator code ≡ false) × (eqb code VALUE ≡ false)
statement_apart code is = (
  ne_eqb code FORM_SET (λ e. false≢true (sym no_form_set ∙ ap is_statement_number (sym e) ∙ is)),
  elim (cases_Bool (is_operator code)) [ inr e ↦ e | inl operator ↦ absurd (false≢true (sym (no_statement code (operator_is_inner code operator)) ∙ is)) ],
  ne_eqb code VALUE (λ e. false≢true (sym (no_statement VALUE value_is_inner) ∙ ap is_statement_number (sym e) ∙ is)),
)

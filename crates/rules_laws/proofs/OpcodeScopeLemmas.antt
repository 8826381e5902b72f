-- The rows admit the same opcodes in a scope, and have the same guards, options and defaults.
use Rattle.std.proofs.Common.{◌≡◌, ◌==◌, ℕ, Bool, true, false, None, List, [], ◌∷◌, ◌++◌, map, refl, sym, ap, ◌∙◌, inl, inr}
use Rattle.std.specs.Prelude.{if◌then◌else◌, nat_le, length}
use Rattle.std.proofs.lemmas.Bool.{cases_Bool}
use Rattle.browser_rules.specs.Words.{is_some_and}
use Rattle.browser_rules.specs.Opcodes as chapter
use Rattle.browser_rules.specs.Opcodes.{row_of, is_a, a_condition, a_default, a_guard, a_store, an_option}
use Rattle.ifr_opcodes.specs.Forest.{Ancestor}
use Rattle.ifr_opcodes.specs.Opcode.{number}
use Rattle.ifr_opcodes.specs.OptionFields.{default_kind}
use Rattle.ifr_opcodes.specs.Rows.{operands, is_question_number, is_statement_number, is_store_number, is_condition_number, is_ignored}
use Rattle.ifr_opcodes.specs.declared.codes.TheConstants.{FORM, ONE_OF_OPTION, DEFAULT, DEFAULTSTORE, VALUE, RULE, LOCKED, SUPPRESS_IF, GRAY_OUT_IF, DISABLE_IF}
use Rattle.ifr_opcodes.specs.declared.kinds.TheConstants.{TYPE_OTHER}
use Rattle.ifr_nodes.specs.Guards.{is_guard}
use Rattle.ifr_nodes.specs.Structure.{has_wrong_scope}
use Rattle.ifr_nodes.specs.Table.{row, wants_expression, wants_value, admits, class_of, guarded, class_around}
use Rattle.ifr_nodes.specs.declared.table.Class.{Class}
use Rattle.ifr_nodes.specs.declared.table.Class.TheVariants.{OfFormSet, OfForm, OfText, OfQuestion, OfChoice, OfOptions, OfOption, OfExpression, OfNothing}
use Rattle.ifr_nodes.proofs.ClassLemmas.{class-guard, class-other}
use Rattle.ifr_nodes.proofs.TableLemmas.{none_opens}
use Rattle.rules_laws.specs.laws.Opcodes.{class_for}
use Rattle.std.proofs.Math.Bool.{and_assoc}
use Rattle.ifr_opcodes.proofs.TableLemmas.{numbers, agree, not_this}
use Rattle.ifr_opcodes.proofs.RowLemmas.{none_takes}
use Rattle.ifr_opcodes.proofs.StatementLemmas.{none_denies, none_ignored, none_states, none_stores}

-- ---- kinds

guard_in_rows : map (λ c. is_a a_guard (c ∷ [])) numbers ≡ map is_guard numbers
unfolding row_of
guard_in_rows = refl

none_guards : (code : ℕ) → row_of code ≡ None → is_guard code ≡ false
none_guards code none = rw (not_this SUPPRESS_IF code refl none, not_this GRAY_OUT_IF code refl none, not_this DISABLE_IF code refl none) refl

pub guard_same : (code : ℕ) → is_a a_guard (code ∷ []) ≡ is_guard code
guard_same code = agree (λ c. is_a a_guard (c ∷ [])) is_guard guard_in_rows (λ c none. rw (none, none_guards c none) refl) code

pub condition_same : (code : ℕ) → is_a a_condition (code ∷ []) ≡ is_condition_number code
unfolding is_condition_number
condition_same code = refl

pub store_same : (code : ℕ) → is_a a_store (code ∷ []) ≡ is_store_number code
unfolding is_store_number
store_same code = refl

option_in_rows : map (λ c. is_a an_option (c ∷ [])) numbers ≡ map (λ c. c == ONE_OF_OPTION) numbers
unfolding row_of
option_in_rows = refl

pub option_same : (code : ℕ) → is_a an_option (code ∷ []) ≡ (code == ONE_OF_OPTION)
option_same code = agree (λ c. is_a an_option (c ∷ [])) (λ c. c == ONE_OF_OPTION) option_in_rows (λ c none. rw (none, not_this ONE_OF_OPTION c refl none) refl) code

default_in_rows : map (λ c. is_a a_default (c ∷ [])) numbers ≡ map (λ c. c == DEFAULT) numbers
unfolding row_of
default_in_rows = refl

pub default_same : (code : ℕ) → is_a a_default (code ∷ []) ≡ (code == DEFAULT)
default_same code = agree (λ c. is_a a_default (c ∷ [])) (λ c. c == DEFAULT) default_in_rows (λ c none. rw (none, not_this DEFAULT c refl none) refl) code

-- ---- with what a scope begins

wanted_in_rows : map (λ c. chapter.wants_expression (c ∷ [])) numbers ≡ map wants_expression numbers
unfolding row_of is_condition_number
wanted_in_rows = refl

none_wanted : (code : ℕ) → row_of code ≡ None → wants_expression code ≡ false
none_wanted code none =
    rw (not_this SUPPRESS_IF code refl none, not_this GRAY_OUT_IF code refl none, not_this DISABLE_IF code refl none, not_this RULE code refl none, not_this VALUE code refl none, none_denies code none) refl

pub wanted_same : (code : ℕ) → chapter.wants_expression (code ∷ []) ≡ wants_expression code
wanted_same code = agree (λ c. chapter.wants_expression (c ∷ [])) wants_expression wanted_in_rows (λ c none. rw (none, none_wanted c none) refl) code

pub value_wanted_same : (op : List ℕ) → chapter.wants_value op ≡ wants_value op
value_wanted_same op = and_assoc (number op == DEFAULT) (nat_le 5 (length op)) (default_kind op == TYPE_OTHER)

-- ---- what a scope admits

admits_in_rows : (class : Class) → map (chapter.admits (class_for class)) numbers ≡ map (admits class) numbers
unfolding row_of operands is_question_number is_statement_number is_store_number is_condition_number is_ignored
admits_in_rows OfFormSet = refl
admits_in_rows OfForm = refl
admits_in_rows OfText = refl
admits_in_rows OfQuestion = refl
admits_in_rows OfChoice = refl
admits_in_rows OfOptions = refl
admits_in_rows OfOption = refl
admits_in_rows OfExpression = refl
admits_in_rows OfNothing = refl

none_admitted : (class : Class) (code : ℕ) → row_of code ≡ None → admits class code ≡ false
none_admitted OfFormSet code none =
    rw (not_this FORM code refl none, not_this DEFAULTSTORE code refl none, none_stores code none, none_guards code none, not_this LOCKED code refl none, none_ignored code none) refl
none_admitted OfForm code none =
    rw (not_this RULE code refl none, none_states code none, none_guards code none, not_this LOCKED code refl none, none_ignored code none) refl
none_admitted OfText code none = rw (not_this LOCKED code refl none, none_ignored code none) refl
none_admitted OfQuestion code none =
    rw (not_this DEFAULT code refl none, none_denies code none, not_this LOCKED code refl none, none_ignored code none) refl
none_admitted OfChoice code none =
    rw (not_this ONE_OF_OPTION code refl none, none_guards code none, not_this DEFAULT code refl none, none_denies code none, not_this LOCKED code refl none, none_ignored code none) refl
none_admitted OfOptions code none =
    rw (not_this ONE_OF_OPTION code refl none, none_guards code none, not_this LOCKED code refl none, none_ignored code none) refl
none_admitted OfOption code none = none_ignored code none
none_admitted OfExpression code none = rw (none_takes code none) refl
none_admitted OfNothing code none = refl

pub admits_same : (class : Class) (code : ℕ) → chapter.admits (class_for class) code ≡ admits class code
admits_same class code = agree (chapter.admits (class_for class)) (admits class) (admits_in_rows class) (λ c none. rw (none, none_admitted class c none) refl) code

-- ---- the rows of scopes

-- what may stand in the scope of an opcode, where it stands in one of a class
inside : Class → ℕ → Class
inside class code = if is_guard code then guarded class else class_of (row code)

inside_in_rows : (class : Class) → map (chapter.class_inside (class_for class)) numbers ≡ map (λ c. class_for (inside class c)) numbers
unfolding row_of row operands inside
inside_in_rows OfFormSet = refl
inside_in_rows OfForm = refl
inside_in_rows OfText = refl
inside_in_rows OfQuestion = refl
inside_in_rows OfChoice = refl
inside_in_rows OfOptions = refl
inside_in_rows OfOption = refl
inside_in_rows OfExpression = refl
inside_in_rows OfNothing = refl

none_inside : (class : Class) (code : ℕ) → row_of code ≡ None → chapter.class_inside (class_for class) code ≡ class_for (inside class code)
unfolding inside
none_inside class code none = rw (none, none_guards code none, none_opens code none) refl

class_same : (class : Class) (code : ℕ) → chapter.class_inside (class_for class) code ≡ class_for (inside class code)
class_same class code = agree (chapter.class_inside (class_for class)) (λ c. class_for (inside class c)) (inside_in_rows class) (none_inside class) code

along : (path : List Ancestor) (a : Ancestor) → inside (class_around path) (number a.op) ≡ class_around (path ++ a ∷ [])
unfolding inside
along path a = elim (cases_Bool (is_guard (number a.op))) [
  | inl guards ↦ rw guards (sym (class-guard path a guards))
  | inr other ↦ rw other (sym (class-other path a other))
]

pub inside_same : (path : List Ancestor) (a : Ancestor) → chapter.class_inside (class_for (class_around path)) (number a.op) ≡ class_for (class_around (path ++ a ∷ []))
inside_same path a = class_same (class_around path) (number a.op) ∙ ap class_for (along path a)

-- ---- wrong Scope

wrong : Bool → List ℕ → ℕ → Bool
wrong operand op code = is_some_and (λ r. chapter.is_wrong_scope r.scope operand op) (row_of code)

wrong_in_rows : (operand : Bool) (op : List ℕ) → map (wrong operand op) numbers ≡ map (λ c. has_wrong_scope (row c) operand op) numbers
unfolding row_of row operands wrong
wrong_in_rows operand op = rw (value_wanted_same op) refl

none_wrong : (operand : Bool) (op : List ℕ) (code : ℕ) → row_of code ≡ None → wrong operand op code ≡ has_wrong_scope (row code) operand op
unfolding wrong
none_wrong operand op code none = rw (none, none_opens code none) refl

pub wrong_same : (operand : Bool) (op : List ℕ) → is_some_and (λ r. chapter.is_wrong_scope r.scope operand op) (row_of (number op)) ≡ has_wrong_scope (row (number op)) operand op
unfolding wrong
wrong_same operand op = agree (wrong operand op) (λ c. has_wrong_scope (row c) operand op) (wrong_in_rows operand op) (none_wrong operand op) (number op)

-- What gives a default and is no statement stands in the scope of a question.
use Rattle.std.proofs.Common.{◌≡◌, ℕ, true, false, eqb, List, refl, sym, ap, ◌∙◌, inl, inr}
use Rattle.std.specs.Prelude.{Contains, ◌||◌}
use Rattle.std.proofs.lemmas.Bool.{cases_Bool, eqb-true, false≢true}
use Rattle.ifr_opcodes.specs.declared.codes.TheConstants.{CHECKBOX, DEFAULT, FORM_SET, ONE_OF_OPTION, VALUE}
use Rattle.ifr_opcodes.specs.Fields.{is_default_option, is_manufacturing_option, is_default_checkbox, is_manufacturing_checkbox}
use Rattle.ifr_opcodes.specs.Opcode.{number}
use Rattle.ifr_opcodes.specs.Rows.{row_of, is_operator, operands, is_question_number, is_statement_number, is_store_number, is_condition_number, is_ignored}
use Rattle.ifr_opcodes.specs.Forest.{Node}
use Rattle.ifr_nodes.specs.Checked.{IsChecked}
use Rattle.ifr_nodes.specs.Nodes.{nodes_of, is_default, is_option, is_statement}
use Rattle.ifr_nodes.specs.Structure.{is_root, is_wanted}
use Rattle.ifr_nodes.specs.Table.{class_around, admits}
use Rattle.ifr_nodes.specs.declared.table.Class.{Class}
use Rattle.ifr_nodes.specs.declared.table.Class.TheVariants.{OfFormSet, OfForm, OfText, OfQuestion, OfChoice, OfOptions, OfOption, OfExpression, OfNothing}
use Rattle.ifr_nodes.proofs.RuleFacts.{held, no_root, not_wanted}
use Rattle.ifr_index.specs.code.Giving.{gives_default, is_giving}
use Rattle.ifr_index.proofs.ConditionFacts.{is_of_question, in_question}
use Rattle.ifr_index.proofs.OptionFacts.{IsBelowQuestion, option_question}

-- ---- a DEFAULT

holds_default : (c : Class) → admits c DEFAULT ≡ true → is_of_question c ≡ true
unfolding is_statement_number is_question_number is_store_number is_condition_number is_ignored operands row_of
holds_default OfFormSet e = absurd (false≢true e)
holds_default OfForm e = absurd (false≢true e)
holds_default OfText e = absurd (false≢true e)
holds_default OfQuestion e = refl
holds_default OfChoice e = refl
holds_default OfOptions e = absurd (false≢true e)
holds_default OfOption e = absurd (false≢true e)
holds_default OfExpression e = absurd (false≢true e)
holds_default OfNothing e = absurd (false≢true e)

no_operator : is_operator DEFAULT ≡ false
unfolding operands row_of
no_operator = refl

default_question : (bytes : List ℕ) (n : Node) → IsChecked bytes → Contains (nodes_of bytes) n → is_default n ≡ true → IsBelowQuestion bytes n
default_question bytes n checked within is =
    let code : number n.op ≡ DEFAULT = eqb-true (number n.op) DEFAULT is in
    let root : is_root n ≡ false = no_root bytes n checked within (ap (λ (k : ℕ). eqb k FORM_SET) code) in
    let other : is_wanted n ≡ false = not_wanted bytes n checked within (ap is_operator code ∙ no_operator) (ap (λ (k : ℕ). eqb k VALUE) code) in
    let h = in_question bytes n checked within (holds_default (class_around n.path) (ap (admits (class_around n.path)) (sym code) ∙ held bytes n checked within other root)) in
    record { question = h.question; within = h.within; asks = h.asks; below = h.below }

-- ---- what is said of each opcode

pub default_gives : (n : Node) → number n.op ≡ DEFAULT → gives_default n ≡ true
unfolding gives_default
default_gives n is = rw is refl

pub option_gives : (n : Node) → number n.op ≡ ONE_OF_OPTION → gives_default n ≡ (is_default_option n.op || is_manufacturing_option n.op)
unfolding gives_default
option_gives n is = rw is refl

pub checkbox_gives : (n : Node) → number n.op ≡ CHECKBOX → gives_default n ≡ (is_default_checkbox n.op || is_manufacturing_checkbox n.op)
unfolding gives_default
checkbox_gives n is = rw is refl

pub other_gives : (n : Node) → eqb (number n.op) DEFAULT ≡ false → eqb (number n.op) ONE_OF_OPTION ≡ false → eqb (number n.op) CHECKBOX ≡ false → gives_default n ≡ false
unfolding gives_default
other_gives n a b c = rw (a, b, c) refl

-- ---- all of them

checkbox_states : is_statement_number CHECKBOX ≡ true
unfolding is_statement_number row_of
checkbox_states = refl

no_checkbox : (n : Node) → is_statement n ≡ false → eqb (number n.op) CHECKBOX ≡ false
no_checkbox n plain = elim (cases_Bool (eqb (number n.op) CHECKBOX)) [
  | inl is ↦ absurd (false≢true (sym plain ∙ ap is_statement_number (eqb-true (number n.op) CHECKBOX is) ∙ checkbox_states))
  | inr other ↦ other
]

pub giving_question : (bytes : List ℕ) (n : Node) → IsChecked bytes → Contains (nodes_of bytes) n → gives_default n ≡ true → is_statement n ≡ false → IsBelowQuestion bytes n
unfolding gives_default
giving_question bytes n checked within gave plain = elim (cases_Bool (is_default n)) [
  | inl is ↦ default_question bytes n checked within is
  | inr other ↦ elim (cases_Bool (is_option n)) [
    | inl is ↦ option_question bytes n checked within is
    | inr neither ↦ let bad : false ≡ true = rw (other, neither, no_checkbox n plain) at gave in absurd (false≢true bad)
  ]
]

pub gives_states : (n : Node) → is_giving n ≡ true → is_statement n ≡ true
unfolding is_giving
gives_states n is = elim (cases_Bool (is_statement n)) [
  | inl states ↦ states
  | inr other ↦ let bad : false ≡ true = rw other at is in absurd (false≢true bad)
]

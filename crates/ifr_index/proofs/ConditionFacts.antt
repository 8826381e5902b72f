-- A condition of a checked package stands right in the scope of a question.
use Rattle.std.proofs.Common.{◌≡◌, ℕ, Bool, true, false, eqb, Option, List, [], ◌∷◌, ◌++◌, map, refl, sym, ap, ◌∙◌, inl, inr}
use Rattle.std.specs.Prelude.{◌||◌, not, Contains, option_map, unwrap_or}
use Rattle.std.proofs.lemmas.Bool.{cases_Bool, eqb-true, ne_eqb, false≢true}
use Rattle.ifr_opcodes.specs.declared.codes.TheConstants.{FORM_SET, VALUE, SUPPRESS_IF, GRAY_OUT_IF, DISABLE_IF}
use Rattle.ifr_opcodes.specs.Opcode.{number}
use Rattle.ifr_opcodes.specs.Rows.{row_of, is_operator, operands, is_question_number, is_statement_number, is_store_number, is_condition_number, is_ignored}
use Rattle.ifr_opcodes.specs.Forest.{Mark, Ancestor, Node, as_ancestor, below}
use Rattle.ifr_opcodes.proofs.StatementLemmas.{none_denies}
use Rattle.ifr_opcodes.proofs.TableLemmas.{not_of_kind, numbers}
use Rattle.ifr_nodes.specs.Checked.{IsChecked}
use Rattle.ifr_nodes.specs.Guards.{is_guard, guards}
use Rattle.ifr_index.specs.code.Tables.{parent_place, is_question_condition}
use Rattle.ifr_nodes.specs.Nodes.{nodes_of, is_question}
use Rattle.ifr_nodes.specs.Structure.{innermost, is_root, is_wanted}
use Rattle.ifr_nodes.specs.Table.{row, class_of, guarded, class_around, admits}
use Rattle.ifr_nodes.specs.declared.table.Class.{Class}
use Rattle.ifr_nodes.specs.declared.table.Class.TheVariants.{OfFormSet, OfForm, OfText, OfQuestion, OfChoice, OfOptions, OfOption, OfExpression, OfNothing}
use Rattle.ifr_nodes.proofs.ExpressionLemmas.{innermost-push}
use Rattle.ifr_index.proofs.InsideLemmas.{inside_node}
use Rattle.ifr_nodes.proofs.ClassLemmas.{class-guard, class-other}
use Rattle.ifr_nodes.proofs.RuleFacts.{held, no_root, not_wanted}
use Rattle.ifr_nodes.proofs.TableLemmas.{class_fact, conditions_no_operator, guards_no_operator}

-- ---- the scopes in which one may stand

-- whether a scope of the class is that of a question, and no guard's in it
abbrev pub is_of_question : Class → Bool
is_of_question OfQuestion = true
is_of_question OfChoice = true
is_of_question _ = false

no_condition_held : (c : Class) → is_of_question c ≡ false → map (λ k. not (is_condition_number k) || not (admits c k)) numbers ≡ map (λ k. true) numbers
unfolding is_statement_number is_question_number is_store_number is_condition_number is_ignored operands row_of
no_condition_held OfFormSet e = refl
no_condition_held OfForm e = refl
no_condition_held OfText e = refl
no_condition_held OfQuestion e = absurd (false≢true (sym e))
no_condition_held OfChoice e = absurd (false≢true (sym e))
no_condition_held OfOptions e = refl
no_condition_held OfOption e = refl
no_condition_held OfExpression e = refl
no_condition_held OfNothing e = refl

holds_condition : (c : Class) (code : ℕ) → is_condition_number code ≡ true → admits c code ≡ true → is_of_question c ≡ true
holds_condition c code is e = elim (cases_Bool (is_of_question c)) [
  | inl of ↦ of
  | inr other ↦ absurd (false≢true (sym (not_of_kind is_condition_number (admits c) (no_condition_held c other) none_denies code e) ∙ is))
]

-- a question has its number
questions_open : map (λ c. not (is_of_question (class_of (row c))) || is_question_number c) numbers ≡ map (λ c. true) numbers
unfolding row is_question_number row_of
questions_open = refl

question_class : (code : ℕ) → is_of_question (class_of (row code)) ≡ true → is_question_number code ≡ true
question_class code e =
    let one : not (is_of_question (class_of (row code))) || is_question_number code ≡ true = class_fact (λ c class. not (is_of_question class) || is_question_number c) questions_open (λ c. refl) code in
    ap (λ (b : Bool). not b || is_question_number code) (sym e) ∙ one

-- a guard in the scope of a question with options covers options alone
guarded_question : (c : Class) → is_of_question (guarded c) ≡ true → c ≡ OfQuestion
guarded_question OfFormSet e = absurd (false≢true e)
guarded_question OfForm e = absurd (false≢true e)
guarded_question OfText e = absurd (false≢true e)
guarded_question OfQuestion e = refl
guarded_question OfChoice e = absurd (false≢true e)
guarded_question OfOptions e = absurd (false≢true e)
guarded_question OfOption e = absurd (false≢true e)
guarded_question OfExpression e = absurd (false≢true e)
guarded_question OfNothing e = absurd (false≢true e)

-- and in that of another there is none
no_guard_held : (code : ℕ) → is_guard code ≡ true → admits OfQuestion code ≡ false
unfolding is_condition_number is_ignored row_of
no_guard_held code guards = elim (cases_Bool (eqb code SUPPRESS_IF)) [
  | inl e ↦ ap (admits OfQuestion) (eqb-true code SUPPRESS_IF e)
  | inr a ↦ elim (cases_Bool (eqb code GRAY_OUT_IF)) [
    | inl e ↦ ap (admits OfQuestion) (eqb-true code GRAY_OUT_IF e)
    | inr b ↦
        let last : eqb code DISABLE_IF ≡ true = rw (a, b) at guards in
        ap (admits OfQuestion) (eqb-true code DISABLE_IF last)
  ]
]

-- ---- what is around one

-- a number that is no condition's is another
other_than : (code other : ℕ) → is_condition_number code ≡ true → is_condition_number other ≡ false → eqb code other ≡ false
other_than code other is plain = ne_eqb code other (λ e. false≢true (sym plain ∙ ap is_condition_number (sym e) ∙ is))

plain_numbers : (is_condition_number FORM_SET ≡ false) × (is_condition_number VALUE ≡ false)
unfolding is_condition_number row_of
plain_numbers = (refl, refl)

no_operator : (code : ℕ) → is_condition_number code ≡ true → is_operator code ≡ false
no_operator code is = elim (cases_Bool (is_operator code)) [
  | inr e ↦ e
  | inl operator ↦ absurd (false≢true (sym (conditions_no_operator code operator) ∙ is))
]

class_there : (bytes : List ℕ) (n : Node) → IsChecked bytes → Contains (nodes_of bytes) n → is_question_condition n ≡ true → is_of_question (class_around n.path) ≡ true
class_there bytes n checked within is =
    let root : is_root n ≡ false = no_root bytes n checked within (other_than (number n.op) FORM_SET is plain_numbers.0) in
    let other : is_wanted n ≡ false = not_wanted bytes n checked within (no_operator (number n.op) is) (other_than (number n.op) VALUE is plain_numbers.1) in
    holds_condition (class_around n.path) (number n.op) is (held bytes n checked within other root)

no_guard_there : (bytes : List ℕ) (g : Node) → IsChecked bytes → Contains (nodes_of bytes) g → is_guard (number g.op) ≡ true → class_around g.path ≡ OfQuestion → ⊥
no_guard_there bytes g checked within guards class =
    let plain : is_operator (number g.op) ≡ false = elim (cases_Bool (is_operator (number g.op))) [
      | inl operator ↦ absurd (false≢true (sym (guards_no_operator (number g.op) operator) ∙ guards))
      | inr e ↦ e
    ] in
    let root : is_root g ≡ false = no_root bytes g checked within (ne_eqb (number g.op) FORM_SET (λ e. false≢true (ap is_guard (sym e) ∙ guards))) in
    let other : is_wanted g ≡ false = not_wanted bytes g checked within plain (ne_eqb (number g.op) VALUE (λ e. false≢true (ap is_guard (sym e) ∙ guards))) in
    false≢true (sym (no_guard_held (number g.op) guards) ∙ ap (λ (c : Class). admits c (number g.op)) (sym class) ∙ held bytes g checked within other root)

-- A question stands right around a node.
pub record HasQuestion (bytes : List ℕ) (n : Node) : Type 0 where
  pub question : Node
  pub within : Contains (nodes_of bytes) question
  pub asks : is_question question ≡ true
  pub below : Contains (below question) n
  pub path : n.path ≡ question.path ++ as_ancestor question ∷ []

pub in_question : (bytes : List ℕ) (n : Node) → IsChecked bytes → Contains (nodes_of bytes) n → is_of_question (class_around n.path) ≡ true → HasQuestion bytes n
in_question bytes n checked within there = elim (inside_node bytes n within) [
  | inl bare ↦ absurd (false≢true (ap (λ (l : List Ancestor). is_of_question (class_around l)) (sym bare) ∙ there))
  | inr r ↦
      let m = r.outer in
      let a = as_ancestor m in
      elim (cases_Bool (is_guard (number m.op))) [
        | inl guards ↦
            let class : class_around n.path ≡ guarded (class_around m.path) = ap class_around r.path ∙ class-guard m.path a guards in
            absurd (no_guard_there bytes m checked r.within guards (guarded_question (class_around m.path) (ap is_of_question (sym class) ∙ there)))
        | inr other ↦
            let class : class_around n.path ≡ class_of (row (number m.op)) = ap class_around r.path ∙ class-other m.path a other in
            record { question = m; within = r.within; asks = question_class (number m.op) (ap is_of_question (sym class) ∙ there); below = r.below; path = r.path }
      ]
]

pub has_question : (bytes : List ℕ) (n : Node) → IsChecked bytes → Contains (nodes_of bytes) n → is_question_condition n ≡ true → HasQuestion bytes n
has_question bytes n checked within is = in_question bytes n checked within (class_there bytes n checked within is)

-- its place is that of what the node stands in
pub question_place : (bytes : List ℕ) (n : Node) (h : HasQuestion bytes n) → parent_place n ≡ h.question.place
question_place bytes n h =
    let q = h.question in
    ap (λ (o : Option Mark). unwrap_or (option_map (λ (a : Mark). a.place) o) 0) (ap innermost h.path ∙ innermost-push q.path (as_ancestor q))

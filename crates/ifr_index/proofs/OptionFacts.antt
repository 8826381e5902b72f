-- An option of a checked package stands in the scope of a question, with guards alone between them.
use Rattle.std.proofs.Common.{◌≡◌, ◌⊎◌, ℕ, zero, suc, ◌+◌, ◌<◌, ◌≤◌, Bool, true, false, eqb, List, [], ◌∷◌, ◌++◌, append_assoc, length, map, refl, sym, ap, ◌∙◌, inl, inr, arith, length-append}
use Rattle.std.specs.Prelude.{◌||◌, not, Contains}
use Rattle.std.proofs.lemmas.Bool.{cases_Bool, cases_lt, eqb-true, false≢true}
use Rattle.ifr_opcodes.specs.declared.codes.TheConstants.{FORM_SET, VALUE, ONE_OF_OPTION}
use Rattle.ifr_opcodes.specs.Opcode.{number}
use Rattle.ifr_opcodes.specs.Rows.{row_of, is_operator, operands, is_question_number, is_statement_number, is_store_number, is_condition_number, is_ignored}
use Rattle.ifr_opcodes.specs.Forest.{none, Ancestor, Node, as_ancestor, below}
use Rattle.ifr_opcodes.specs.Reading.{tree_of}
use Rattle.ifr_opcodes.proofs.ForestLemmas.{takes}
use Rattle.ifr_opcodes.proofs.TableLemmas.{numbers}
use Rattle.ifr_nodes.specs.Checked.{IsChecked}
use Rattle.ifr_nodes.specs.Guards.{is_guard}
use Rattle.ifr_nodes.specs.Nodes.{nodes_of, end_of, is_question, is_statement, is_option}
use Rattle.ifr_nodes.specs.Structure.{is_root, is_wanted}
use Rattle.ifr_nodes.specs.Table.{row, class_of, guarded, class_around, admits}
use Rattle.ifr_nodes.specs.declared.table.Class.{Class}
use Rattle.ifr_nodes.specs.declared.table.Class.TheVariants.{OfFormSet, OfForm, OfText, OfQuestion, OfChoice, OfOptions, OfOption, OfExpression, OfNothing}
use Rattle.ifr_nodes.proofs.BehindLemmas.{are_inside, below_or_behind}
use Rattle.ifr_nodes.proofs.ClassLemmas.{class-guard, class-other}
use Rattle.ifr_index.proofs.InsideLemmas.{inside_node}
use Rattle.ifr_nodes.proofs.PlaceLemmas.{node_stands}
use Rattle.ifr_index.proofs.QuestionFacts.{no_statement_inside}
use Rattle.ifr_nodes.proofs.RuleFacts.{held, no_root, not_wanted, one_place}
use Rattle.ifr_nodes.proofs.ScopeLemmas.{path_inside}
use Rattle.ifr_nodes.proofs.TableLemmas.{class_fact}
use Rattle.ifr_nodes.proofs.ViewLemmas.{below_within}

-- ---- the scopes in which one may stand

-- whether a scope of the class is that of a question with options, or a guard's in it
abbrev is_of_options : Class → Bool
is_of_options OfChoice = true
is_of_options OfOptions = true
is_of_options _ = false

holds_option : (c : Class) → admits c ONE_OF_OPTION ≡ true → is_of_options c ≡ true
unfolding is_statement_number is_question_number is_store_number is_condition_number is_ignored operands row_of
holds_option OfFormSet e = absurd (false≢true e)
holds_option OfForm e = absurd (false≢true e)
holds_option OfText e = absurd (false≢true e)
holds_option OfQuestion e = absurd (false≢true e)
holds_option OfChoice e = refl
holds_option OfOptions e = refl
holds_option OfOption e = absurd (false≢true e)
holds_option OfExpression e = absurd (false≢true e)
holds_option OfNothing e = absurd (false≢true e)

-- what is no guard and has such a scope is a question
questions_open : map (λ c. not (is_of_options (class_of (row c))) || is_question_number c) numbers ≡ map (λ c. true) numbers
unfolding row is_question_number row_of
questions_open = refl

options_class : (code : ℕ) → is_of_options (class_of (row code)) ≡ true → is_question_number code ≡ true
options_class code e =
    let one : not (is_of_options (class_of (row code))) || is_question_number code ≡ true = class_fact (λ c class. not (is_of_options class) || is_question_number c) questions_open (λ c. refl) code in
    ap (λ (b : Bool). not b || is_question_number code) (sym e) ∙ one

guarded_options : (c : Class) → is_of_options (guarded c) ≡ true → is_of_options c ≡ true
guarded_options OfFormSet e = e
guarded_options OfForm e = e
guarded_options OfText e = e
guarded_options OfQuestion e = e
guarded_options OfChoice e = refl
guarded_options OfOptions e = e
guarded_options OfOption e = e
guarded_options OfExpression e = e
guarded_options OfNothing e = e

-- ---- the question of an option

-- A question has a node below it.
pub record IsBelowQuestion (bytes : List ℕ) (n : Node) : Type 0 where
  pub question : Node
  pub within : Contains (nodes_of bytes) question
  pub asks : is_question question ≡ true
  pub below : Contains (below question) n

nothing_there : (path : List Ancestor) → path ≡ [] → is_of_options (class_around path) ≡ true → ⊥
nothing_there path bare is = false≢true (ap (λ (l : List Ancestor). is_of_options (class_around l)) (sym bare) ∙ is)

in_options : (bytes : List ℕ) (k : ℕ) (n : Node) → IsChecked bytes → Contains (nodes_of bytes) n → length n.path ≤ k → is_of_options (class_around n.path) ≡ true → IsBelowQuestion bytes n
in_options bytes zero n checked within le is = elim (inside_node bytes n within) [
  | inl bare ↦ absurd (nothing_there n.path bare is)
  | inr r ↦ absurd (omega (arith, le, ap (λ (l : List Ancestor). length l) r.path, length-append r.outer.path (as_ancestor r.outer ∷ [])))
]
in_options bytes (suc k) n checked within le is = elim (inside_node bytes n within) [
  | inl bare ↦ absurd (nothing_there n.path bare is)
  | inr r ↦
      let m = r.outer in
      let a = as_ancestor m in
      let shorter : length m.path ≤ k = omega (arith, le, ap (λ (l : List Ancestor). length l) r.path, length-append m.path (a ∷ [])) in
      elim (cases_Bool (is_guard (number m.op))) [
        | inl guards ↦
            let class : class_around n.path ≡ guarded (class_around m.path) = ap class_around r.path ∙ class-guard m.path a guards in
            let h = in_options bytes k m checked r.within shorter (guarded_options (class_around m.path) (ap is_of_options (sym class) ∙ is)) in
            let q = h.question in
            record { question = q; within = h.within; asks = h.asks; below = below_within q.children (q.place + length q.op) (q.path ++ as_ancestor q ∷ []) m n h.below r.below }
        | inr other ↦
            let class : class_around n.path ≡ class_of (row (number m.op)) = ap class_around r.path ∙ class-other m.path a other in
            record { question = m; within = r.within; asks = options_class (number m.op) (ap is_of_options (sym class) ∙ is); below = r.below }
      ]
]

no_operator : is_operator ONE_OF_OPTION ≡ false
unfolding operands row_of
no_operator = refl

pub option_question : (bytes : List ℕ) (n : Node) → IsChecked bytes → Contains (nodes_of bytes) n → is_option n ≡ true → IsBelowQuestion bytes n
option_question bytes n checked within is =
    let code : number n.op ≡ ONE_OF_OPTION = eqb-true (number n.op) ONE_OF_OPTION is in
    let root : is_root n ≡ false = no_root bytes n checked within (ap (λ (k : ℕ). eqb k FORM_SET) code) in
    let other : is_wanted n ≡ false = not_wanted bytes n checked within (ap is_operator code ∙ no_operator) (ap (λ (k : ℕ). eqb k VALUE) code) in
    in_options bytes (length n.path) n checked within (omega arith) (holds_option (class_around n.path) (ap (admits (class_around n.path)) (sym code) ∙ held bytes n checked within other root))

-- ---- where it stands

pub not_below : (bytes : List ℕ) (q m : Node) → IsChecked bytes → Contains (nodes_of bytes) q → is_question q ≡ true → is_statement m ≡ true → Contains (below q) m → ⊥
not_below bytes q m checked within asks states inner =
    let inside = path_inside q.children (q.place + length q.op) (q.path ++ as_ancestor q ∷ []) m inner in
    let whole : m.path ≡ q.path ++ as_ancestor q ∷ inside.0 = inside.1 ∙ append_assoc q.path (as_ancestor q ∷ []) inside.0 in
    false≢true (sym (no_statement_inside bytes q m inside.0 checked (below_within (tree_of bytes) 4 [] q m within inner) asks whole) ∙ states)

-- What is below a node stands behind it, and before its end.
pub record IsBetween (q n : Node) : Type 0 where
  pub behind : q.place < n.place
  pub before : n.place < end_of q

pub between : (bytes : List ℕ) (q n : Node) → IsChecked bytes → Contains (nodes_of bytes) q → Contains (below q) n → IsBetween q n
between bytes q n checked within inner =
    let nodes = (node_stands bytes (tree_of bytes) q checked.spelled within).2 in
    let size = takes q.op q.children none nodes in
    let long : 2 ≤ length q.op = nodes.0.whole.long in
    let i = are_inside q.children (q.place + length q.op) (q.path ++ as_ancestor q ∷ []) n nodes.1.0 inner in
    record { behind = omega (arith, long, i.low); before = omega (arith, size.0, i.some, i.high) }

pub behind_question : (bytes : List ℕ) (n : Node) → IsChecked bytes → (h : IsBelowQuestion bytes n) → h.question.place < n.place
behind_question bytes n checked h = (between bytes h.question n checked h.within h.below).behind

-- What has a node behind another below it, and not the other, is the other, or stands behind it as well.
pub holder_there : (bytes : List ℕ) (q m n : Node) → IsChecked bytes → Contains (nodes_of bytes) q → Contains (nodes_of bytes) m → Contains (below q) n → (Contains (below q) m → ⊥) → m.place < n.place → (q ≡ m) ⊎ (m.place < q.place)
holder_there bytes q m n checked v w inner apart less = elim (cases_lt m.place q.place) [
  | inl behind ↦ inr behind
  | inr upto ↦ elim (cases_lt q.place m.place) [
    | inl before ↦ absurd (elim (below_or_behind (tree_of bytes) 4 [] q m checked.spelled.are_nodes v w before) [
      | inl both ↦ apart both
      | inr past ↦ omega (arith, past, less, (between bytes q n checked v inner).before)
    ])
    | inr from ↦ inl (one_place bytes q m checked v w (omega (arith, upto, from)))
  ]
]

-- The question of an option behind a statement is the statement, or stands behind it as well.
pub question_there : (bytes : List ℕ) (m n : Node) → IsChecked bytes → Contains (nodes_of bytes) m → is_statement m ≡ true → m.place < n.place → (h : IsBelowQuestion bytes n) → (h.question ≡ m) ⊎ (m.place < h.question.place)
question_there bytes m n checked within states less h =
    holder_there bytes h.question m n checked h.within within h.below (λ inner. not_below bytes h.question m checked h.within h.asks states inner) less

-- What stands in the scope of a question of a checked package is no statement and no form.
use Rattle.std.proofs.Common.{◌≡◌, ℕ, zero, suc, ◌≤◌, Bool, true, false, List, [], ◌∷◌, ◌++◌, append_assoc, length, refl, sym, ap, ◌∙◌, arith, inl, inr, length-append}
use Rattle.std.specs.Prelude.{Contains, ◌||◌}
use Rattle.std.proofs.lemmas.Bool.{cases_Bool, ne_eqb, false≢true}
use Rattle.ifr_opcodes.specs.declared.codes.TheConstants.{FORM}
use Rattle.ifr_opcodes.specs.Opcode.{number}
use Rattle.ifr_opcodes.specs.Rows.{is_question_number}
use Rattle.ifr_opcodes.specs.Forest.{Ancestor, Node, as_ancestor}
use Rattle.ifr_nodes.specs.Checked.{IsChecked}
use Rattle.ifr_nodes.specs.Guards.{is_guard}
use Rattle.ifr_nodes.specs.Nodes.{nodes_of, is_form, is_question, is_statement}
use Rattle.ifr_nodes.specs.Structure.{parent, is_condition, begins_with_value, is_wanted, is_root}
use Rattle.ifr_nodes.specs.Table.{class_around}
use Rattle.ifr_nodes.proofs.ClassLemmas.{class-guard, class-other}
use Rattle.ifr_nodes.proofs.RuleFacts.{split_last, around_it, is_operator_there, is_value_there, held}
use Rattle.ifr_nodes.proofs.TableLemmas.{is_inner, is_outer, inner_is_not_outer, guarded_inner, other_is_inner, question_is_inner, no_statement, operator_is_inner, value_is_inner, no_guard}
use Rattle.ifr_opcodes.proofs.StatementLemmas.{question_is_statement}

-- what begins a scope is no statement, nor does one stand in its own
wanted_is_inner : (bytes : List ℕ) (n : Node) → IsChecked bytes → Contains (nodes_of bytes) n → is_wanted n ≡ true → is_outer (number n.op) ≡ false
wanted_is_inner bytes n checked within is = elim (cases_Bool (is_condition n)) [
  | inl condition ↦ operator_is_inner (number n.op) (is_operator_there bytes n checked within condition)
  | inr other ↦
      let value : begins_with_value n.place (parent n) ≡ true = ap (λ (b : Bool). b || begins_with_value n.place (parent n)) (sym other) ∙ is in
      ap (λ (k : ℕ). is_outer k) (is_value_there bytes n checked within value) ∙ value_is_inner
]

-- a node in such a scope is no statement, nor what one stands in
node_is_inner : (bytes : List ℕ) (n : Node) → IsChecked bytes → Contains (nodes_of bytes) n → is_root n ≡ false → is_inner (class_around n.path) ≡ true → is_outer (number n.op) ≡ false
node_is_inner bytes n checked within root inner = elim (cases_Bool (is_wanted n)) [
  | inl is ↦ wanted_is_inner bytes n checked within is
  | inr other ↦ inner_is_not_outer (class_around n.path) (number n.op) inner (held bytes n checked within other root)
]

some_root : (n : Node) (before after : List Ancestor) (a : Ancestor) → n.path ≡ before ++ a ∷ after → is_root n ≡ false
some_root n before after a e = ne_eqb (length n.path) 0 (λ z. omega (arith, z, ap (λ (l : List Ancestor). length l) e, length-append before (a ∷ after)))

pub last_of : (xs ys : List Ancestor) (x y : Ancestor) → xs ++ x ∷ [] ≡ ys ++ y ∷ [] → (xs ≡ ys) × (x ≡ y)
last_of [] [] x y e = (refl, cc)
last_of [] (z ∷ ys) x y e = absurd (omega (arith, ap (λ (l : List Ancestor). length l) e, length-append ys (y ∷ [])))
last_of (z ∷ xs) [] x y e = absurd (omega (arith, ap (λ (l : List Ancestor). length l) e, length-append xs (x ∷ [])))
last_of (z ∷ xs) (w ∷ ys) x y e =
    let tails : xs ++ x ∷ [] ≡ ys ++ y ∷ [] = cc e in
    let heads : z ≡ w = cc e in
    let inner = last_of xs ys x y tails in
    (ap (λ (l : List Ancestor). z ∷ l) inner.0 ∙ ap (λ (b : Ancestor). b ∷ ys) heads, inner.1)

question_no_guard : (code : ℕ) → is_question_number code ≡ true → is_guard code ≡ false
question_no_guard code asks = no_guard code (question_is_statement code asks)

-- right inside of a question's
outermost_class : (q n : Node) (inside : List Ancestor) → is_question q ≡ true → n.path ≡ q.path ++ as_ancestor q ∷ inside → inside ≡ [] → is_inner (class_around n.path) ≡ true
outermost_class q n inside is e bare =
    let path : n.path ≡ q.path ++ as_ancestor q ∷ [] = e ∙ ap (λ (l : List Ancestor). q.path ++ as_ancestor q ∷ l) bare in
    ap (λ (l : List Ancestor). is_inner (class_around l)) path ∙ ap is_inner (class-other q.path (as_ancestor q) (question_no_guard (number q.op) is)) ∙ question_is_inner (number q.op) is

-- in the scope of a node that is in such a scope
deeper_class : (bytes : List ℕ) (n m : Node) → IsChecked bytes → Contains (nodes_of bytes) m → n.path ≡ m.path ++ as_ancestor m ∷ [] → is_root m ≡ false → is_inner (class_around m.path) ≡ true → is_inner (class_around n.path) ≡ true
deeper_class bytes n m checked within path root around = elim (cases_Bool (is_guard (number m.op))) [
  | inl guards ↦ ap (λ (l : List Ancestor). is_inner (class_around l)) path ∙ ap is_inner (class-guard m.path (as_ancestor m) guards) ∙ guarded_inner (class_around m.path) around
  | inr other ↦ ap (λ (l : List Ancestor). is_inner (class_around l)) path ∙ ap is_inner (class-other m.path (as_ancestor m) other) ∙ other_is_inner (number m.op) (node_is_inner bytes m checked within root around)
]

-- the scopes inside of a question's are such scopes
pub inner_class : (bytes : List ℕ) (k : ℕ) (q n : Node) (inside : List Ancestor) → IsChecked bytes → Contains (nodes_of bytes) n → is_question q ≡ true → length inside ≤ k
    → n.path ≡ q.path ++ as_ancestor q ∷ inside → is_inner (class_around n.path) ≡ true
inner_class bytes zero q n inside checked within is le e = elim (split_last inside) [
  | inl bare ↦ outermost_class q n inside is e bare
  | inr (before, a, last) ↦ absurd (omega (arith, le, ap (λ (l : List Ancestor). length l) last, length-append before (a ∷ [])))
]
inner_class bytes (suc k) q n inside checked within is le e = elim (split_last inside) [
  | inl bare ↦ outermost_class q n inside is e bare
  | inr (before, a, last) ↦ elim (around_it bytes n checked within) [
    | inl bare ↦ absurd (omega (arith, ap (λ (l : List Ancestor). length l) (sym e ∙ bare), length-append q.path (as_ancestor q ∷ inside)))
    | inr r ↦
        let m = r.outer in
        let whole : n.path ≡ (q.path ++ as_ancestor q ∷ before) ++ a ∷ [] = e ∙ ap (λ (l : List Ancestor). q.path ++ as_ancestor q ∷ l) last ∙ sym (append_assoc q.path (as_ancestor q ∷ before) (a ∷ [])) in
        let same = last_of (q.path ++ as_ancestor q ∷ before) m.path a (as_ancestor m) (sym whole ∙ r.path) in
        let shorter : length before ≤ k = omega (arith, le, ap (λ (l : List Ancestor). length l) last, length-append before (a ∷ [])) in
        let around : is_inner (class_around m.path) ≡ true = inner_class bytes k q m before checked r.within is shorter (sym same.0) in
        deeper_class bytes n m checked r.within r.path (some_root m q.path before (as_ancestor q) (sym same.0)) around
  ]
]

-- no statement stands in the scope of a question, nor what one stands in
inside_is_inner : (bytes : List ℕ) (q n : Node) (inside : List Ancestor) → IsChecked bytes → Contains (nodes_of bytes) n → is_question q ≡ true → n.path ≡ q.path ++ as_ancestor q ∷ inside → is_outer (number n.op) ≡ false
inside_is_inner bytes q n inside checked within is e =
    node_is_inner bytes n checked within (some_root n q.path inside (as_ancestor q) e) (inner_class bytes (length inside) q n inside checked within is (omega arith) e)

pub no_statement_inside : (bytes : List ℕ) (q n : Node) (inside : List Ancestor) → IsChecked bytes → Contains (nodes_of bytes) n → is_question q ≡ true → n.path ≡ q.path ++ as_ancestor q ∷ inside → is_statement n ≡ false
no_statement_inside bytes q n inside checked within is e = no_statement (number n.op) (inside_is_inner bytes q n inside checked within is e)

pub no_form_inside : (bytes : List ℕ) (q n : Node) (inside : List Ancestor) → IsChecked bytes → Contains (nodes_of bytes) n → is_question q ≡ true → n.path ≡ q.path ++ as_ancestor q ∷ inside → is_form n ≡ false
no_form_inside bytes q n inside checked within is e =
    ne_eqb (number n.op) FORM (λ form. false≢true (sym (inside_is_inner bytes q n inside checked within is e) ∙ ap (λ (k : ℕ). is_outer k) form))

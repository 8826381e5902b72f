-- A statement of a checked package stands in the scope of a form, and no form stands in that of another.
use Rattle.std.proofs.Common.{◌≡◌, ◌⊎◌, ℕ, zero, suc, ◌+◌, ◌<◌, ◌≤◌, true, List, [], ◌∷◌, ◌++◌, append_assoc, length, sym, ap, ◌∙◌, inl, inr, arith, length-append}
use Rattle.std.specs.Prelude.{◌==◌, Contains}
use Rattle.std.proofs.lemmas.Bool.{cases_Bool, cond-true, eqb-true, eq-eqb}
use Rattle.std.proofs.lemmas.List.Elements.{filter-append}
use Rattle.ifr_opcodes.specs.declared.codes.TheConstants.{FORM}
use Rattle.ifr_opcodes.specs.Opcode.{number}
use Rattle.ifr_opcodes.specs.Forest.{Ancestor, Node, as_ancestor, below}
use Rattle.ifr_nodes.specs.Checked.{IsChecked}
use Rattle.ifr_nodes.specs.Guards.{is_guard}
use Rattle.ifr_nodes.specs.Nodes.{nodes_of, is_form, is_statement}
use Rattle.ifr_nodes.specs.Rules.{forms_among}
use Rattle.ifr_nodes.specs.Table.{row, class_of, guarded, class_around}
use Rattle.ifr_nodes.specs.declared.table.Class.TheVariants.{OfForm, OfNothing}
use Rattle.ifr_nodes.proofs.ClassLemmas.{class-guard, class-other}
use Rattle.ifr_index.proofs.InsideLemmas.{inside_node}
use Rattle.ifr_index.proofs.OptionFacts.{between, holder_there}
use Rattle.ifr_nodes.proofs.RuleFacts.{around_subtitle, held, no_form_around, no_root, not_wanted}
use Rattle.ifr_nodes.proofs.ScopeLemmas.{path_inside}
use Rattle.ifr_nodes.proofs.TableLemmas.{guarded_form, holds_statement, of_form, statement_apart}
use Rattle.ifr_nodes.proofs.ViewLemmas.{below_within}

-- ---- the form of a statement

-- A form has a node below it.
pub record IsBelowForm (bytes : List ℕ) (n : Node) : Type 0 where
  pub form : Node
  pub within : Contains (nodes_of bytes) form
  pub is : is_form form ≡ true
  pub below : Contains (below form) n

nothing_there : (path : List Ancestor) → path ≡ [] → class_around path ≡ OfForm → ⊥
nothing_there path bare e = let bad : OfNothing ≡ OfForm = ap class_around (sym bare) ∙ e in absurd cc

-- what is below a node below a form is below the form
deeper : (bytes : List ℕ) (n m : Node) → IsBelowForm bytes m → Contains (below m) n → IsBelowForm bytes n
deeper bytes n m h inner =
    let q = h.form in
    record { form = q; within = h.within; is = h.is; below = below_within q.children (q.place + length q.op) (q.path ++ as_ancestor q ∷ []) m n h.below inner }

in_form : (bytes : List ℕ) (k : ℕ) (n : Node) → IsChecked bytes → Contains (nodes_of bytes) n → length n.path ≤ k → class_around n.path ≡ OfForm → IsBelowForm bytes n
in_form bytes zero n checked within le e = elim (inside_node bytes n within) [
  | inl bare ↦ absurd (nothing_there n.path bare e)
  | inr r ↦ absurd (omega (arith, le, ap (λ (l : List Ancestor). length l) r.path, length-append r.outer.path (as_ancestor r.outer ∷ [])))
]
in_form bytes (suc k) n checked within le e = elim (inside_node bytes n within) [
  | inl bare ↦ absurd (nothing_there n.path bare e)
  | inr r ↦
      let m = r.outer in
      let a = as_ancestor m in
      let shorter : length m.path ≤ k = omega (arith, le, ap (λ (l : List Ancestor). length l) r.path, length-append m.path (a ∷ [])) in
      elim (cases_Bool (is_guard (number m.op))) [
        | inl guards ↦
            let class : class_around n.path ≡ guarded (class_around m.path) = ap class_around r.path ∙ class-guard m.path a guards in
            deeper bytes n m (in_form bytes k m checked r.within shorter (guarded_form (class_around m.path) (sym class ∙ e))) r.below
        | inr other ↦
            let class : class_around n.path ≡ class_of (row (number m.op)) = ap class_around r.path ∙ class-other m.path a other in
            elim (of_form (number m.op) (sym class ∙ e)) [
              | inl form ↦ record { form = m; within = r.within; is = eq-eqb (number m.op) FORM form; below = r.below }
              | inr subtitle ↦ deeper bytes n m (in_form bytes k m checked r.within shorter (around_subtitle bytes m checked r.within subtitle)) r.below
            ]
      ]
]

pub statement_form : (bytes : List ℕ) (n : Node) → IsChecked bytes → Contains (nodes_of bytes) n → is_statement n ≡ true → IsBelowForm bytes n
statement_form bytes n checked within is =
    let its = statement_apart (number n.op) is in
    let root = no_root bytes n checked within its.0 in
    let other = not_wanted bytes n checked within its.1 its.2 in
    in_form bytes (length n.path) n checked within (omega arith) (holds_statement (class_around n.path) (number n.op) is (held bytes n checked within other root))

-- ---- where it stands

pub no_form_below : (bytes : List ℕ) (q m : Node) → IsChecked bytes → is_form q ≡ true → Contains (nodes_of bytes) m → is_form m ≡ true → Contains (below q) m → ⊥
no_form_below bytes q m checked form within is inner =
    let a = as_ancestor q in
    let inside = path_inside q.children (q.place + length q.op) (q.path ++ a ∷ []) m inner in
    let whole : m.path ≡ q.path ++ a ∷ inside.0 = inside.1 ∙ append_assoc q.path (a ∷ []) inside.0 in
    let none : forms_among (q.path ++ a ∷ inside.0) ≡ [] = ap forms_among (sym whole) ∙ no_form_around bytes m checked within (eqb-true (number m.op) FORM is) in
    let parts : forms_among (q.path ++ a ∷ inside.0) ≡ forms_among q.path ++ forms_among (a ∷ inside.0) = filter-append (λ (b : Ancestor). number b.op == FORM) q.path (a ∷ inside.0) in
    let itself : forms_among (a ∷ inside.0) ≡ a ∷ forms_among inside.0 = cond-true (is_form q) _ _ form in
    omega (arith, ap (λ (l : List Ancestor). length l) (sym none ∙ parts ∙ ap (λ (l : List Ancestor). forms_among q.path ++ l) itself), length-append (forms_among q.path) (a ∷ forms_among inside.0))

pub behind_form : (bytes : List ℕ) (n : Node) → IsChecked bytes → (h : IsBelowForm bytes n) → h.form.place < n.place
behind_form bytes n checked h = (between bytes h.form n checked h.within h.below).behind

-- The form of a statement behind a form is this form, or stands behind it as well.
pub form_there : (bytes : List ℕ) (m n : Node) → IsChecked bytes → Contains (nodes_of bytes) m → is_form m ≡ true → m.place < n.place → (h : IsBelowForm bytes n) → (h.form ≡ m) ⊎ (m.place < h.form.place)
form_there bytes m n checked within form less h =
    holder_there bytes h.form m n checked h.within within h.below (λ inner. no_form_below bytes h.form m checked h.is within form inner) less

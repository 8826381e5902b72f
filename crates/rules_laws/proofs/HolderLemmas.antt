-- What stands on the path of a node: the nodes that have it below them, and among them the innermost form.
use Rattle.std.proofs.Common.{◌≡◌, ℕ, zero, suc, ◌+◌, ◌<◌, ◌≤◌, true, false, Option, Some, None, List, [], ◌∷◌, ◌++◌, length, refl, sym, ap, ◌∙◌, subst, inl, inr, arith, length-append}
use Rattle.std.specs.Prelude.{Contains, ◌==◌}
use Rattle.std.specs.List.{last_or}
use Rattle.std.proofs.lemmas.Bool.{eqb-true, eq-eqb}
use Rattle.std.proofs.lemmas.List.Elements.{Contains-append_cases, Contains-append_left, Contains-append_right}
use Rattle.ifr_opcodes.specs.Opcode.{number}
use Rattle.ifr_opcodes.specs.Forest.{Ancestor, Node, as_ancestor, below}
use Rattle.ifr_opcodes.specs.Reading.{tree_of}
use Rattle.ifr_opcodes.specs.declared.codes.TheConstants.{FORM}
use Rattle.ifr_nodes.specs.Checked.{IsChecked}
use Rattle.ifr_nodes.specs.Nodes.{nodes_of, end_of}
use Rattle.ifr_nodes.specs.Rules.{is_rule, forms_among}
use Rattle.ifr_nodes.proofs.BehindLemmas.{are_inside, below_or_behind}
use Rattle.ifr_scopes.proofs.FormFacts.{IsBelowForm, behind_form, form_there}
use Rattle.ifr_index.proofs.InsideLemmas.{inside_node}
use Rattle.ifr_index.proofs.OptionFacts.{between}
use Rattle.ifr_index.proofs.OptionsOfLemmas.{passes}
use Rattle.ifr_nodes.proofs.RuleFacts.{one_place, rule_fact}
use Rattle.ifr_nodes.proofs.ScopeLemmas.{path_inside}
use Rattle.ifr_nodes.proofs.ViewLemmas.{below_within}
use Rattle.hii_questions.proofs.FieldLemmas.{passing}
use Rattle.rules_laws.specs.laws.Naming.{place_or_0, form_around, is_inside}
use Rattle.rules_laws.proofs.FoundLemmas.{nothing, any_passes, some_passes, last_is_there, some_last}

-- ---- what is on a path

-- One on the path of a node is a node that has it below.
pub record IsHolder (bytes : List ℕ) (n : Node) (a : Ancestor) : Type 0 where
  pub node : Node
  pub within : Contains (nodes_of bytes) node
  pub is : as_ancestor node ≡ a
  pub below : Contains (below node) n

only : (a b : Ancestor) → Contains (a ∷ []) b → a ≡ b
only a b (zero, lt, e) = e
only a b (suc k, lt, e) = absurd (omega arith)

-- what is below a node is below what has that node below
pub deeper : (q m n : Node) → Contains (below q) m → Contains (below m) n → Contains (below q) n
deeper q m n outer inner = below_within q.children (q.place + length q.op) (q.path ++ as_ancestor q ∷ []) m n outer inner

holder_up_to : (bytes : List ℕ) (k : ℕ) (n : Node) (a : Ancestor) → Contains (nodes_of bytes) n → length n.path ≤ k → Contains n.path a → IsHolder bytes n a
holder_up_to bytes zero n a within le on = absurd (omega (arith, le, on.1))
holder_up_to bytes (suc k) n a within le on = elim (inside_node bytes n within) [
  | inl bare ↦ absurd (nothing a (subst (λ (l : List Ancestor). Contains l a) bare on))
  | inr r ↦
      let m = r.outer in
      let long : length m.path ≤ k = omega (arith, le, ap (λ (l : List Ancestor). length l) r.path, length-append m.path (as_ancestor m ∷ [])) in
      elim (Contains-append_cases m.path (as_ancestor m ∷ []) a (subst (λ (l : List Ancestor). Contains l a) r.path on)) [
        | inl outward ↦
            let h = holder_up_to bytes k m a r.within long outward in
            record { node = h.node; within = h.within; is = h.is; below = deeper h.node m n h.below r.below }
        | inr last ↦ record { node = m; within = r.within; is = only (as_ancestor m) a last; below = r.below }
      ]
]

pub holder : (bytes : List ℕ) (n : Node) (a : Ancestor) → Contains (nodes_of bytes) n → Contains n.path a → IsHolder bytes n a
holder bytes n a within on = holder_up_to bytes (length n.path) n a within (omega arith) on

-- a node has those on its path whose children it is among
pub on_path : (q n : Node) → Contains (below q) n → Contains n.path (as_ancestor q)
on_path q n inner =
    let inside = path_inside q.children (q.place + length q.op) (q.path ++ as_ancestor q ∷ []) n inner in
    subst (λ (l : List Ancestor). Contains l (as_ancestor q)) (sym inside.1)
    (Contains-append_left (q.path ++ as_ancestor q ∷ []) inside.0 (as_ancestor q) (Contains-append_right q.path (as_ancestor q ∷ []) (as_ancestor q) (0, omega arith, refl)))

-- ---- a node in the scope of another

pub inside_is_below : (bytes : List ℕ) (q n : Node) → IsChecked bytes → Contains (nodes_of bytes) q → Contains (nodes_of bytes) n → is_inside q n ≡ true → Contains (below q) n
inside_is_below bytes q n checked v w is =
    let found = any_passes (λ (a : Ancestor). a.place == q.place) n.path is in
    let h = holder bytes n found.0 w found.1 in
    let here : h.node.place ≡ q.place = ap (λ (a : Ancestor). a.place) h.is ∙ eqb-true found.0.place q.place found.2 in
    subst (λ (p : Node). Contains (below p) n) (one_place bytes h.node q checked h.within v here) h.below

pub below_is_inside : (q n : Node) → Contains (below q) n → is_inside q n ≡ true
below_is_inside q n inner = some_passes (λ (a : Ancestor). a.place == q.place) n.path (as_ancestor q) (on_path q n inner) (eq-eqb q.place q.place refl)

-- A node ends before another exactly where it stands before it and does not hold it.
pub ends_before : (bytes : List ℕ) (q n : Node) → IsChecked bytes → Contains (nodes_of bytes) q → Contains (nodes_of bytes) n → end_of q ≤ n.place → (q.place < n.place) × (is_inside q n ≡ true → ⊥)
ends_before bytes q n checked v w le =
    let its = are_inside (tree_of bytes) 4 [] q checked.spelled.are_nodes v in
    (omega (arith, its.some, le), λ is. omega (arith, le, (between bytes q n checked v (inside_is_below bytes q n checked v w is)).before))

pub before_it_ends : (bytes : List ℕ) (q n : Node) → IsChecked bytes → Contains (nodes_of bytes) q → Contains (nodes_of bytes) n → q.place < n.place → is_inside q n ≡ false → end_of q ≤ n.place
before_it_ends bytes q n checked v w less outside = elim (below_or_behind (tree_of bytes) 4 [] q n checked.spelled.are_nodes v w less) [
  | inl inner ↦ let bad : true ≡ false = sym (below_is_inside q n inner) ∙ outside in absurd cc
  | inr behind ↦ behind
]

-- ---- the innermost form

-- a node is below one form alone
pub one_form : (bytes : List ℕ) (n : Node) → IsChecked bytes → (g h : IsBelowForm bytes n) → g.form ≡ h.form
one_form bytes n checked g h = elim (form_there bytes h.form n checked h.within h.is (behind_form bytes n checked h) g) [
  | inl same ↦ same
  | inr behind ↦ elim (form_there bytes g.form n checked g.within g.is (behind_form bytes n checked g) h) [
    | inl same ↦ sym same
    | inr past ↦ absurd (omega arith)
  ]
]

-- one of the forms on the path of a node
pub form_on : (bytes : List ℕ) (n : Node) (a : Ancestor) → Contains (nodes_of bytes) n → Contains (forms_among n.path) a → (h : IsBelowForm bytes n) × (as_ancestor h.form ≡ a)
form_on bytes n a within on =
    let its = passing (λ (b : Ancestor). number b.op == FORM) n.path a on in
    let h = holder bytes n a within its.0 in
    (record { form = h.node; within = h.within; is = ap (λ (b : Ancestor). number b.op == FORM) h.is ∙ its.1; below = h.below }, h.is)

-- the form below which a node stands is the innermost one around it
pub innermost_is : (bytes : List ℕ) (n : Node) → IsChecked bytes → Contains (nodes_of bytes) n → (h : IsBelowForm bytes n) → last_or None (forms_among n.path) ≡ Some (as_ancestor h.form)
innermost_is bytes n checked within h =
    let there : Contains (forms_among n.path) (as_ancestor h.form) = passes (λ (b : Ancestor). number b.op == FORM) n.path (as_ancestor h.form) (on_path h.form n h.below) h.is in
    let last = some_last (forms_among n.path) (as_ancestor h.form) there in
    let g = form_on bytes n last.0 within (last_is_there (forms_among n.path) last.0 last.1) in
    last.1 ∙ ap (λ (a : Ancestor). Some a) (sym g.1) ∙ ap (λ (p : Node). Some (as_ancestor p)) (one_form bytes n checked g.0 h)

-- a form that is the innermost one around a node has it below
pub around_is : (bytes : List ℕ) (n f : Node) → IsChecked bytes → Contains (nodes_of bytes) n → Contains (nodes_of bytes) f → form_around n ≡ f.place → Contains (below f) n
around_is bytes n f checked w v e = go (last_or None (forms_among n.path)) refl e
  where
    go : (o : Option Ancestor) → last_or None (forms_among n.path) ≡ o → place_or_0 o ≡ f.place → Contains (below f) n
    go None is at = absurd (omega (arith, at, (are_inside (tree_of bytes) 4 [] f checked.spelled.are_nodes v).low))
    go (Some a) is at =
        let g = form_on bytes n a w (last_is_there (forms_among n.path) a is) in
        let same : g.0.form ≡ f = one_place bytes g.0.form f checked g.0.within v (ap (λ (b : Ancestor). b.place) g.1 ∙ at) in
        subst (λ (p : Node). Contains (below p) n) same g.0.below

-- each rule stands below a form
pub form_of_rule : (bytes : List ℕ) (r : Node) → IsChecked bytes → Contains (nodes_of bytes) r → is_rule r ≡ true → IsBelowForm bytes r
form_of_rule bytes r checked within is =
    let fact = rule_fact bytes r checked within is in
    (form_on bytes r fact.form within (subst (λ (l : List Ancestor). Contains l fact.form) (sym fact.forms) (0, omega arith, refl))).0

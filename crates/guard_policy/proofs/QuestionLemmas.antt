-- A question is found at its place.
use Rattle.std.proofs.Common.{◌≡◌, ℕ, zero, suc, eqb, true, false, Some, None, List, [], ◌∷◌, map, refl, sym, ap, ◌∙◌, inl, inr, arith}
use Rattle.std.specs.Prelude.{Contains, if◌then◌else◌, filter}
use Rattle.std.proofs.lemmas.Bool.{cases_Bool, eq-eqb, eqb-true, cond-true, cond-false}
use Rattle.ifr_opcodes.specs.Forest.{Node, node_at, SpellsForest}
use Rattle.ifr_opcodes.specs.Reading.{tree_of}
use Rattle.ifr_nodes.specs.code.Checked.{IsNodeOf}
use Rattle.ifr_nodes.specs.Nodes.{nodes_of, is_question}
use Rattle.ifr_nodes.proofs.PlaceLemmas.{is_found}
use Rattle.ifr_nodes.proofs.ViewLemmas.{contains_found, further}
use Rattle.hii_questions.specs.Fields.{Asked, asked, questions}
use Rattle.hii_questions.specs.code.Tables.{first_at}

-- each of these nodes is the one that is found at its place among all
abbrev AreFound : List Node → List Node → Type 0
AreFound ns l = (m : Node) → Contains l m → node_at ns m.place ≡ Some m

later_found : (ns l : List Node) (m : Node) → AreFound ns (m ∷ l) → AreFound ns l
later_found ns l m each = λ n within. each n (further m l n within)

first_there : (l : List Node) (m : Node) → Contains (m ∷ l) m
first_there l m = (0, omega arith, refl)

-- two nodes at one place are one
same_node : (ns : List Node) (m n : Node) → node_at ns m.place ≡ Some m → node_at ns n.place ≡ Some n → m.place ≡ n.place → m ≡ n
same_node ns m n there here e = let both : Some m ≡ Some n = sym there ∙ ap (node_at ns) e ∙ here in cc

abbrev asked_among : List Node → List Node → List Asked
asked_among ns l = map (asked ns) (filter is_question l)

found_first : (ns l : List Node) (m n : Node) → m ≡ n → is_question n ≡ true → first_at (asked_among ns (m ∷ l)) n.place ≡ Some (asked ns n)
found_first ns l m n same is =
    let asks : is_question m ≡ true = ap is_question same ∙ is in
    let here : eqb m.place n.place ≡ true = eq-eqb m.place n.place (ap (λ (p : Node). p.place) same) in
    rw (asks, here) (ap (λ (p : Node). Some (asked ns p)) same)

-- a node of another place, or one that is no question, is passed
passed : (ns l : List Node) (m : Node) (place : ℕ) → eqb m.place place ≡ false → first_at (asked_among ns (m ∷ l)) place ≡ first_at (asked_among ns l) place
passed ns l m place other = elim (cases_Bool (is_question m)) [
  | inl asks ↦ rw (asks, other) refl
  | inr none ↦ rw none refl
]

found : (ns l : List Node) (n : Node) → AreFound ns l → Contains l n → is_question n ≡ true → node_at ns n.place ≡ Some n → first_at (asked_among ns l) n.place ≡ Some (asked ns n)
found ns [] n each (k, lt, e) is at = absurd (omega arith)
found ns (m ∷ l) n each (zero, lt, e) is at = found_first ns l m n e is
found ns (m ∷ l) n each (suc k, lt, e) is at = elim (cases_Bool (eqb m.place n.place)) [
  | inl here ↦ found_first ns l m n (same_node ns m n (each m (first_there l m)) at (eqb-true m.place n.place here)) is
  | inr other ↦ passed ns l m n.place other ∙ found ns l n (later_found ns l m each) (k, omega arith, e) is at
]

not_found : (ns l : List Node) (n : Node) → AreFound ns l → is_question n ≡ false → node_at ns n.place ≡ Some n → first_at (asked_among ns l) n.place ≡ None
not_found ns [] n each is at = refl
not_found ns (m ∷ l) n each is at =
    let rest = not_found ns l n (later_found ns l m each) is at in
    elim (cases_Bool (eqb m.place n.place)) [
      | inl here ↦
          let none : is_question m ≡ false = ap is_question (same_node ns m n (each m (first_there l m)) at (eqb-true m.place n.place here)) ∙ is in
          rw none rest
      | inr other ↦ passed ns l m n.place other ∙ rest
    ]

-- the question at the place of a node is the node, if it is one
pub question_there : (bytes : List ℕ) (n : Node) → SpellsForest bytes (tree_of bytes) → IsNodeOf bytes n
    → first_at (questions (nodes_of bytes)) n.place ≡ (if is_question n then Some (asked (nodes_of bytes) n) else None)
question_there bytes n s at =
    let ns = nodes_of bytes in
    let each : AreFound ns ns = λ m within. is_found bytes (tree_of bytes) m s within in
    elim (cases_Bool (is_question n)) [
      | inl is ↦ found ns ns n each (contains_found ns n.place n at) is at ∙ sym (cond-true (is_question n) (Some (asked ns n)) None is)
      | inr none ↦ not_found ns ns n each none at ∙ sym (cond-false (is_question n) (Some (asked ns n)) None none)
    ]

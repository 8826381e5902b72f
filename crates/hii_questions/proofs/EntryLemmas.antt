-- What is kept of the questions of a package.
use Rattle.std.proofs.Common.{◌≡◌, ℕ, zero, suc, ◌<◌, ◌^◌, Bool, true, false, Some, List, [], ◌∷◌, ◌++◌, map, length, refl, sym, ap, subst, ◌∙◌, arith, inl, inr, append_assoc, filter, find}
use Rattle.std.specs.Prelude.{All, Contains, is_some}
use Rattle.std.proofs.lemmas.Bool.{and_from, and_parts, cases_Bool}
use Rattle.std.proofs.lemmas.List.{length-map, map-append}
use Rattle.std.proofs.lemmas.List.Elements.{All-append}
use Rattle.std.proofs.lemmas.List.Sums.{length-filter, count_by-le-length}
use Rattle.ifr_opcodes.specs.Forest.{Node, SpellsForest}
use Rattle.ifr_opcodes.specs.Reading.{tree_of}
use Rattle.ifr_nodes.specs.Accepted.{IsAccepted}
use Rattle.ifr_nodes.specs.Nodes.{nodes_of, is_question, is_statement}
use Rattle.ifr_nodes.specs.code.Checked.{has_node, has_statement, node_in}
use Rattle.ifr_nodes.proofs.EndLemmas.{stands_there}
use Rattle.ifr_nodes.proofs.PlaceLemmas.{is_found}
use Rattle.ifr_nodes.proofs.ViewLemmas.{node_in_place}
use Rattle.ifr_nodes.proofs.WalkLemmas.{at_first, few_left}
use Rattle.hii_varstore.specs.Layout.{Shape}
use Rattle.hii_questions.specs.Fields.{Asked, asked, asked_at, questions}
use Rattle.hii_questions.specs.code.Entries.{IsEntryOf, IsQuestionEntry, entry_field, entry_view}
use Rattle.hii_questions.specs.code.Ranges.{HasWidth, IsNarrow}
use Rattle.hii_questions.specs.declared.entry.QuestionEntry.{QuestionEntry}
use Rattle.hii_questions.proofs.QuestionLemmas.{question_is_statement}

-- what is kept of a node that is a question
pub entry_kept : (ifr : List ℕ) (shape : Shape) (n : Node) (e : QuestionEntry) → SpellsForest ifr (tree_of ifr) → Contains (nodes_of ifr) n → IsEntryOf shape n e → IsQuestionEntry ifr e
entry_kept ifr shape n e s within of =
    let here = node_in_place ifr n s within in
    let same : node_in ifr e.place ≡ n = ap (node_in ifr) of.place ∙ here in
    let stands : has_statement ifr n.place ≡ true = and_from (has_node ifr n.place) (is_statement (node_in ifr n.place)) (ap is_some (is_found ifr (tree_of ifr) n s within)) (ap is_statement here ∙ question_is_statement n of.asks) in
    record {
      there = subst (λ (p : ℕ). has_statement ifr p ≡ true) (sym of.place) stands;
      asks = ap is_question same ∙ of.asks;
      wide = subst (λ (m : Node). HasWidth m (entry_field e)) (sym same) of.wide;
      narrow = subst (λ (m : Node). IsNarrow m (entry_field e)) (sym same) of.narrow;
    }

-- The question stands at the place that is kept.
pub entry_place : (ifr : List ℕ) (e : QuestionEntry) → SpellsForest ifr (tree_of ifr) → IsQuestionEntry ifr e → (node_in ifr e.place).place ≡ e.place
entry_place ifr e s is = (stands_there ifr e.place s (and_parts (has_node ifr e.place) (is_statement (node_in ifr e.place)) is.there).0).1

-- one more statement that is a question
pub push_question : (ifr : List ℕ) (shape : Shape) (es : List QuestionEntry) (e : QuestionEntry) (n : Node) (left rest : List Node) (all : List Asked)
    → SpellsForest ifr (tree_of ifr) → Contains (nodes_of ifr) n → IsEntryOf shape n e → left ≡ n ∷ rest
    → map (entry_view ifr) es ++ map (asked_at shape) (filter is_question left) ≡ all
    → map (entry_view ifr) (es ++ e ∷ []) ++ map (asked_at shape) (filter is_question rest) ≡ all
push_question ifr shape es e n left rest all s within of steps was =
    let node : node_in ifr e.place ≡ n = ap (node_in ifr) of.place ∙ node_in_place ifr n s within in
    let same : entry_view ifr e ≡ asked_at shape n = λ i. record { node = node i; field = of.field i } in
    let first : map (asked_at shape) (filter is_question left) ≡ entry_view ifr e ∷ map (asked_at shape) (filter is_question rest) =
    ap (λ (l : List Node). map (asked_at shape) (filter is_question l)) steps ∙ rw of.asks (ap (λ (a : Asked). a ∷ map (asked_at shape) (filter is_question rest)) (sym same)) in
    ap (λ (l : List Asked). l ++ map (asked_at shape) (filter is_question rest)) (map-append (entry_view ifr) es (e ∷ []))
    ∙ append_assoc (map (entry_view ifr) es) (entry_view ifr e ∷ []) (map (asked_at shape) (filter is_question rest))
    ∙ ap (λ (l : List Asked). map (entry_view ifr) es ++ l) (sym first) ∙ was

-- one that is none
pub pass_statement : (shape : Shape) (n : Node) (left rest : List Node) → is_question n ≡ false → left ≡ n ∷ rest
    → map (asked_at shape) (filter is_question rest) ≡ map (asked_at shape) (filter is_question left)
pass_statement shape n left rest other steps = sym (ap (λ (l : List Node). map (asked_at shape) (filter is_question l)) steps ∙ rw other refl)

all_one : {X : Type 0} (P : X → Type 0) (x : X) → P x → All P (x ∷ [])
all_one P x is zero d lt = is
all_one P x is (suc k) d lt = absurd (omega (arith, lt))

-- what holds of all and of one more
pub all_more : {X : Type 0} (P : X → Type 0) (xs : List X) (x : X) → All P xs → P x → All P (xs ++ x ∷ [])
all_more P xs x all is = All-append P xs (x ∷ []) all (all_one P x is)

-- what holds of all holds of one that is found
pub found_holds : {X : Type 0} (P : X → Type 0) (p : X → Bool) (xs : List X) (x : X) → All P xs → find p xs ≡ Some x → P x
found_holds P p [] x all e = absurd cc
found_holds P p (y ∷ ys) x all e = elim (cases_Bool (p y)) [
  | inl here ↦ let same : Some y ≡ Some x = rw here at e in let is : y ≡ x = cc in subst P is (all 0 y (omega arith))
  | inr other ↦ found_holds P p ys x (λ k d lt. all (suc k) d (omega arith)) (rw other at e)
]

-- tests that agree find the same
pub found_alike : {X : Type 0} (p q : X → Bool) (xs : List X) → All (λ x. p x ≡ q x) xs → find p xs ≡ find q xs
found_alike p q [] all = refl
found_alike p q (x ∷ xs) all = elim (cases_Bool (q x)) [
  | inl here ↦ rw (all 0 x (omega arith), here) refl
  | inr other ↦ rw (all 0 x (omega arith), other) (found_alike p q xs (λ k d lt. all (suc k) d (omega arith)))
]

-- A package has fewer questions than a number of four bytes may count.
pub few_questions : (ifr : List ℕ) → IsAccepted ifr → length (questions (nodes_of ifr)) < 2 ^ 32
few_questions ifr accepted =
    let ns = nodes_of ifr in
    let first = at_first ifr accepted.checked.header accepted.checked.small accepted.checked.spelled in
    let all : length ns < 2 ^ 32 = subst (λ (l : List Node). length l < 2 ^ 32) first.1 (few_left ifr 4 [] first.0) in
    omega (arith, all, length-map (filter is_question ns) (asked ns), length-filter is_question ns, count_by-le-length is_question ns)

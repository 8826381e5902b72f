-- Which questions decide on which, told question by question and asked id by id.
use Rattle.std.proofs.Common.{◌≡◌, ℕ, zero, suc, ◌+◌, ◌<◌, ◌≤◌, Bool, true, false, eqb, List, [], ◌∷◌, ◌++◌, length, get_or, drop, map, refl, sym, ap, ◌∙◌, inl, inr, arith, append_assoc, append-nil, is_eq}
use Rattle.std.specs.Prelude.{filter, if◌then◌else◌}
use Rattle.std.specs.List.{flat_map, range_with_len}
use Rattle.std.specs.List.Sorted.{IsPermutation, IsSortedByKey, IsStableByKey}
use Rattle.std.specs.Ordering.{nat_cmp}
use Rattle.std.proofs.lemmas.Bool.{cases_Bool, eqb-false, eqb-true, ne_eqb}
use Rattle.std.proofs.lemmas.Cmp.{nat_cmp_total}
use Rattle.std.proofs.lemmas.List.{at_drop_more, map-append}
use Rattle.std.proofs.lemmas.List.Elements.{filter-append}
use Rattle.ifr_opcodes.specs.Forest.{Node}
use Rattle.hii_varstore.proofs.TableLemmas.{is_eq-nat_cmp}
use Rattle.hii_questions.specs.Fields.{Asked, questions}
use Rattle.hii_questions.specs.code.Views.{question_view}
use Rattle.hii_values.proofs.OrderLemmas.{filter_mapped, kept_at}
use Rattle.question_audit.specs.Audited.{Audited}
use Rattle.question_audit.specs.Dependences.{all_ids, decided_by, is_decided_by, support_ids, supports}
use Rattle.question_audit.specs.declared.when.When.{When}
use Rattle.question_rows.specs.Dependences.{decided_item, decided_items}
use Rattle.question_rows.specs.code.Deciding.{AreDecisions, decisions_on, is_by, told}
use Rattle.question_rows.specs.declared.decisions.Decision.{Decision}

abbrev is_of : ℕ → ℕ × Asked → Bool
is_of id t = is_eq (nat_cmp t.0 id)

abbrev at_id : ℕ → ℕ → Bool
at_id id k = is_eq (nat_cmp k id)

-- ---- a number is once among all of a range that pass a test

outside : (test : ℕ → Bool) (id a n : ℕ) → ((k : ℕ) → a ≤ k → k < a + n → k ≡ id → ⊥) → filter (at_id id) (filter test (range_with_len a n)) ≡ []
outside test id a zero away = refl
outside test id a (suc n) away =
    let rest = outside test id (a + 1) n (λ k low high. away k (omega (arith, low)) (omega (arith, high))) in
    let here : at_id id a ≡ false = is_eq-nat_cmp a id ∙ ne_eqb a id (λ e. away a (omega arith) (omega arith) e) in
    elim (cases_Bool (test a)) [
      | inl is ↦ rw is (rw here rest)
      | inr other ↦ rw other rest
    ]

-- the id itself, where it passes
abbrev one_if : Bool → ℕ → List ℕ
one_if b id = if b then id ∷ [] else []

once : (test : ℕ → Bool) (id a n : ℕ) → a ≤ id → id < a + n → filter (at_id id) (filter test (range_with_len a n)) ≡ one_if (test id) id
once test id a zero low high = absurd (omega (arith, low, high))
once test id a (suc n) low high = elim (cases_Bool (eqb a id)) [
  | inl is ↦
      let same : a ≡ id = eqb-true a id is in
      let here : at_id id a ≡ true = is_eq-nat_cmp a id ∙ is in
      let gone = outside test id (a + 1) n (λ k above below e. omega (arith, above, e, same)) in
      elim (cases_Bool (test a)) [
        | inl has ↦ rw has (rw here (ap (λ (l : List ℕ). a ∷ l) gone ∙ ap (λ (k : ℕ). k ∷ []) same ∙ sym (ap (λ (b : Bool). one_if b id) (ap test (sym same) ∙ has))))
        | inr not ↦ rw not (gone ∙ sym (ap (λ (b : Bool). one_if b id) (ap test (sym same) ∙ not)))
      ]
  | inr apart ↦
      let here : at_id id a ≡ false = is_eq-nat_cmp a id ∙ apart in
      let more = once test id (a + 1) n (omega (arith, low, eqb-false a id apart)) (omega (arith, high)) in
      elim (cases_Bool (test a)) [
        | inl has ↦ rw has (rw here more)
        | inr not ↦ rw not more
      ]
]

-- ---- of each question the ids that decide, of each id the questions

among : (test : ℕ → Bool) (id : ℕ) → id < 65536 → filter (at_id id) (filter test all_ids) ≡ one_if (test id) id
unfolding all_ids
among test id lt = go 65536 lt
  where
    go : (limit : ℕ) → id < limit → filter (at_id id) (filter test (range_with_len 0 limit)) ≡ one_if (test id) id
    go limit below = once test id 0 limit (omega arith) (omega (arith, below))

of_one : (when : When) (ns : List Node) (id : ℕ) (q : Asked) → id < 65536 → filter (is_of id) (decisions_on when ns q) ≡ map (λ (k : ℕ). (k, q)) (one_if (supports when ns q.node id) id)
of_one when ns id q lt = filter_mapped (λ (k : ℕ). (k, q)) (is_of id) (support_ids when ns q.node) ∙ ap (map (λ (k : ℕ). (k, q))) (among (supports when ns q.node) id lt)

abbrev on : ℕ × Asked → Asked
on t = t.1

of_all : (when : When) (ns : List Node) (id : ℕ) (qs : List Asked) → id < 65536 → map on (filter (is_of id) (flat_map (decisions_on when ns) qs)) ≡ filter (is_decided_by when ns id) qs
of_all when ns id [] lt = refl
of_all when ns id (q ∷ qs) lt =
    let rest = flat_map (decisions_on when ns) qs in
    let parts = ap (map on) (filter-append (is_of id) (decisions_on when ns q) rest ∙ ap (λ (l : List (ℕ × Asked)). l ++ filter (is_of id) rest) (of_one when ns id q lt)) in
    parts ∙ elim (cases_Bool (is_decided_by when ns id q)) [
      | inl is ↦ rw is (ap (λ (l : List Asked). q ∷ l) (of_all when ns id qs lt))
      | inr other ↦ rw other (of_all when ns id qs lt)
    ]

-- ---- decisions in the order of their ids

on_of : (ds : List Decision) → map on (map told ds) ≡ map (λ (d : Decision). question_view d.on) ds
on_of [] = refl
on_of (d ∷ ds) = ap (λ (l : List Asked). question_view d.on ∷ l) (on_of ds)

pub sorted_are : (when : When) (ns : List Node) (ds sorted : List Decision) → map told ds ≡ flat_map (decisions_on when ns) (questions ns) → IsPermutation ds sorted → IsSortedByKey (λ (d : Decision). d.by) nat_cmp sorted
    → IsStableByKey (λ (d : Decision). d.by) nat_cmp ds sorted → AreDecisions when ns sorted
sorted_are when ns ds sorted all shuffled rise stable = record {
  rise = rise;
  its = λ id lt.
      sym (on_of (filter (is_by id) sorted)) ∙ ap (λ (l : List Decision). map on (map told l)) (kept_at nat_cmp_total (λ (d : Decision). d.by) id ds sorted shuffled stable)
      ∙ ap (map on) (sym (filter_mapped told (is_of id) ds) ∙ ap (filter (is_of id)) all) ∙ of_all when ns id (questions ns) lt;
}

-- ---- what is added question by question

pub all_added : (f : Asked → List (ℕ × Asked)) (ds : List Decision) (left all : List Asked) → ds ≡ [] → left ≡ all → map told ds ++ flat_map f left ≡ flat_map f all
all_added f ds left all none e = ap (λ (l : List Decision). map told l ++ flat_map f left) none ∙ ap (flat_map f) e

pub one_added : (f : Asked → List (ℕ × Asked)) (old new : List Decision) (q : Asked) (left rest all : List Asked) → left ≡ q ∷ rest → map told new ≡ map told old ++ f q → map told old ++ flat_map f left ≡ flat_map f all
    → map told new ++ flat_map f rest ≡ flat_map f all
one_added f old new q left rest all e more so =
    ap (λ (l : List (ℕ × Asked)). l ++ flat_map f rest) more ∙ append_assoc (map told old) (f q) (flat_map f rest) ∙ ap (λ (l : List Asked). map told old ++ flat_map f l) (sym e) ∙ so

pub none_more : (f : Asked → List (ℕ × Asked)) (ds : List Decision) (left all : List Asked) → left ≡ [] → map told ds ++ flat_map f left ≡ flat_map f all → map told ds ≡ flat_map f all
none_more f ds left all none so = sym (append-nil (map told ds)) ∙ ap (λ (l : List Asked). map told ds ++ flat_map f l) (sym none) ∙ so

-- the next of some is at hand
pub drop_first : {X : Type 0} (xs : List X) (i : ℕ) (x : X) → i < length xs → x ≡ get_or xs i x → drop i xs ≡ x ∷ drop (i + 1) xs
drop_first xs i x lt e = at_drop_more (λ l. l) xs i x lt ∙ ap (λ y. y ∷ drop (i + 1) xs) (sym e)

-- one more decision on a question is added
pub one_pushed : (old new : List Decision) (d : Decision) (q : Asked) (left rest : List ℕ) (all : List (ℕ × Asked)) → new ≡ old ++ d ∷ [] → question_view d.on ≡ q → left ≡ d.by ∷ rest → map told old ++ map (λ k. (k, q)) left ≡ all
    → map told new ++ map (λ k. (k, q)) rest ≡ all
one_pushed old new d q left rest all more its e so =
    ap (λ (l : List Decision). map told l ++ map (λ k. (k, q)) rest) more ∙ ap (λ (l : List (ℕ × Asked)). l ++ map (λ k. (k, q)) rest) (map-append told old (d ∷ []))
    ∙ append_assoc (map told old) (told d ∷ []) (map (λ k. (k, q)) rest) ∙ ap (λ (p : Asked). map told old ++ (d.by, p) ∷ map (λ k. (k, q)) rest) its
    ∙ ap (λ (l : List ℕ). map told old ++ map (λ k. (k, q)) l) (sym e) ∙ so

-- ---- the decisions of an id as they are written

mapped_twice : {Y : Type 0} (f : Asked → Y) (ds : List Decision) → map (λ (d : Decision). f (question_view d.on)) ds ≡ map f (map (λ (d : Decision). question_view d.on) ds)
mapped_twice f [] = refl
mapped_twice f (d ∷ ds) = ap (λ (l : List _). f (question_view d.on) ∷ l) (mapped_twice f ds)

pub items_are : (when : When) (a : Audited) (kept ds : List Decision) (id : ℕ) → id < 65536 → AreDecisions when a.world.nodes kept → ds ≡ filter (is_by id) kept
    → map (λ (d : Decision). decided_item when a (question_view d.on)) ds ≡ decided_items when a id
items_are when a kept ds id lt are e =
    mapped_twice (decided_item when a) ds ∙ ap (λ (l : List Decision). map (decided_item when a) (map (λ (d : Decision). question_view d.on) l)) e ∙ ap (map (decided_item when a)) (are.its id lt)

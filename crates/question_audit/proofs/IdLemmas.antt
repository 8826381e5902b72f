-- Sets of ids, each the ids that pass a test.
use Rattle.std.proofs.Common.{◌≡◌, ℕ, zero, suc, ◌+◌, ◌<◌, ◌≤◌, Bool, true, false, ◌||◌, eqb, List, [], ◌∷◌, refl, sym, ap, ◌∙◌, inl, inr, arith, is_eq}
use Rattle.std.specs.Prelude.{filter}
use Rattle.std.specs.BTreeSet.{BTreeSet, IsOrdered}
use Rattle.std.specs.List.{AllByRecursion, list_any, range_with_len}
use Rattle.std.specs.List.Sorted.{IsStrictlySortedBy}
use Rattle.std.specs.Ordering.{nat_cmp}
use Rattle.std.specs.declared.cmp.Ordering.TheVariants.{Less, Equal}
use Rattle.std.proofs.lemmas.Bool.{cases_Bool, cases_lt, eqb-false, eqb-true, lt-ltb, ne_eqb}
use Rattle.std.proofs.lemmas.Cmp.{nat_cmp_total}
use Rattle.std.proofs.lemmas.List.Kept.{IsStrictlySortedBy-filter}
use Rattle.std.proofs.lemmas.Map.Lookups.{btree_set_from_contains}
use Rattle.hii_varstore.proofs.TableLemmas.{is_eq-nat_cmp}
use Rattle.question_audit.specs.Dependences.{all_ids}
use Rattle.question_audit.specs.code.Ids.{AreIds, has_id}

-- ---- all numbers of a range that pass a test

abbrev pub hits : ℕ → ℕ → Bool
hits q k = is_eq (nat_cmp q k)

-- a number outside of it is not there
outside : (test : ℕ → Bool) (q a n : ℕ) → ((k : ℕ) → a ≤ k → k < a + n → q ≡ k → ⊥) → list_any (hits q) (filter test (range_with_len a n)) ≡ false
outside test q a zero away = refl
outside test q a (suc n) away =
    let rest = outside test q (a + 1) n (λ k low high. away k (omega (arith, low)) (omega (arith, high))) in
    let here : hits q a ≡ false = is_eq-nat_cmp q a ∙ ne_eqb q a (λ e. away a (omega arith) (omega arith) e) in
    elim (cases_Bool (test a)) [
      | inl is ↦ rw is (ap (λ (b : Bool). b || list_any (hits q) (filter test (range_with_len (a + 1) n))) here ∙ rest)
      | inr other ↦ rw other rest
    ]

inside : (test : ℕ → Bool) (q a n : ℕ) → a ≤ q → q < a + n → list_any (hits q) (filter test (range_with_len a n)) ≡ test q
inside test q a zero low high = absurd (omega (arith, low, high))
inside test q a (suc n) low high =
    let rest = filter test (range_with_len (a + 1) n) in
    elim (cases_Bool (eqb q a)) [
      | inl is ↦
          let same : q ≡ a = eqb-true q a is in
          let here : hits q a ≡ true = is_eq-nat_cmp q a ∙ is in
          let gone = outside test q (a + 1) n (λ k above below e. omega (arith, above, e, same)) in
          elim (cases_Bool (test a)) [
            | inl has ↦ rw has (ap (λ (b : Bool). b || list_any (hits q) rest) here ∙ sym (ap test same ∙ has))
            | inr not ↦ rw not (gone ∙ sym (ap test same ∙ not))
          ]
      | inr apart ↦
          let here : hits q a ≡ false = is_eq-nat_cmp q a ∙ apart in
          let more : list_any (hits q) rest ≡ test q = inside test q (a + 1) n (omega (arith, low, eqb-false q a apart)) (omega (arith, high)) in
          elim (cases_Bool (test a)) [
            | inl has ↦ rw has (ap (λ (b : Bool). b || list_any (hits q) rest) here ∙ more)
            | inr not ↦ rw not more
          ]
    ]

-- they rise
above : (x a n : ℕ) → x < a → AllByRecursion (λ y. nat_cmp x y ≡ Less) (range_with_len a n)
above x a zero lt = tt
above x a (suc n) lt = (rw (lt-ltb x a lt) refl, above x (a + 1) n (omega (arith, lt)))

rises : (a n : ℕ) → IsStrictlySortedBy nat_cmp (range_with_len a n)
unfolding IsStrictlySortedBy
rises a zero = tt
rises a (suc n) = (above a (a + 1) n (omega arith), rises (a + 1) n)

-- ---- the ids of a set are those that pass its test

equal : (x y : ℕ) → nat_cmp x y ≡ Equal → x ≡ y
equal x y e = eqb-true x y (sym (is_eq-nat_cmp x y) ∙ ap is_eq e)

below : (test : ℕ → Bool) (limit : ℕ) (ids : BTreeSet ℕ) → IsOrdered nat_cmp ids → ((id : ℕ) → has_id ids id ≡ test id) → ((id : ℕ) → limit ≤ id → has_id ids id ≡ false) → ids.keys ≡ filter test (range_with_len 0 limit)
below test limit ids ordered has few =
    let all : BTreeSet ℕ = record { keys = filter test (range_with_len 0 limit) } in
    btree_set_from_contains nat_cmp_total ids all ordered (IsStrictlySortedBy-filter nat_cmp test _ (rises 0 limit))
    (λ q. elim (cases_lt q limit) [
      | inl lt ↦ has q ∙ sym (inside test q 0 limit (omega arith) (omega (arith, lt)))
      | inr ge ↦ few q ge ∙ sym (outside test q 0 limit (λ k low high e. omega (arith, ge, high, e)))
    ]) equal

pub keys_are : (test : ℕ → Bool) (ids : BTreeSet ℕ) → AreIds ids → ((id : ℕ) → has_id ids id ≡ test id) → ids.keys ≡ filter test all_ids
unfolding all_ids
keys_are test ids are has = below test 65536 ids are.ordered has are.few

-- Things in the order of their keys, and those of one key.
use Rattle.std.proofs.Common.{◌≡◌, ◌⊎◌, ℕ, zero, suc, ◌+◌, ◌-◌, ◌≤◌, ◌<◌, Bool, true, false, not, ◌&&◌, List, [], ◌∷◌, ◌++◌, length, get_or, take, drop, refl, sym, ap, ◌∙◌, arith, inl, inr, map, filter, is_eq, is_lt, is_le, length-take, length-drop, take-append-drop, append-nil}
use Rattle.std.specs.Prelude.{All}
use Rattle.std.specs.Cmp.{IsTotalOrder, Equal-is, alike_right}
use Rattle.std.specs.List.Sorted.{IsNonDecreasingBy, IsPartitionPoint, IsPartitionedBy, IsPermutation, IsSortedByKey, IsStableByKey, ties}
use Rattle.std.specs.declared.cmp.Ordering.{Ordering}
use Rattle.std.specs.declared.cmp.Ordering.TheVariants.{Less, Equal, Greater}
use Rattle.std.specs.Ordering.{ordering_index, ordering_reverse}
use Rattle.std.proofs.lemmas.Bool.{cases_Bool, true≢false}
use Rattle.std.proofs.lemmas.List.{get_or-take, get_or-drop, get_or_default}
use Rattle.std.proofs.lemmas.List.Elements.{filter-append}
use Rattle.std.proofs.lemmas.List.Sorted.{All-permutation, searchable_from_sorted}

-- ---- what passes a test

pub filter_none : {X : Type 0} (p : X → Bool) (xs : List X) → All (λ x. p x ≡ false) xs → filter p xs ≡ []
filter_none p [] fails = refl
filter_none p (x ∷ xs) fails = rw (fails 0 x (omega arith)) (filter_none p xs (λ k d lt. fails (suc k) d (omega arith)))

pub filter_all : {X : Type 0} (p : X → Bool) (xs : List X) → All (λ x. p x ≡ true) xs → filter p xs ≡ xs
filter_all p [] passes = refl
filter_all p (x ∷ xs) passes = rw (passes 0 x (omega arith)) (ap (λ l. x ∷ l) (filter_all p xs (λ k d lt. passes (suc k) d (omega arith))))

pub filter_mapped : {X Y : Type 0} (f : X → Y) (p : Y → Bool) (xs : List X) → filter p (map f xs) ≡ map f (filter (λ x. p (f x)) xs)
filter_mapped f p [] = refl
filter_mapped f p (x ∷ xs) = elim (cases_Bool (p (f x))) [
  | inl here ↦ rw here (ap (λ l. f x ∷ l) (filter_mapped f p xs))
  | inr other ↦ rw other (filter_mapped f p xs)
]

-- Either something passes, or nothing does.
some_or_none : {X : Type 0} (p : X → Bool) (xs : List X) → ((x : X) × (p x ≡ true)) ⊎ (filter p xs ≡ [])
some_or_none p [] = inr refl
some_or_none p (x ∷ xs) = elim (cases_Bool (p x)) [
  | inl here ↦ inl (x, here)
  | inr other ↦ rw other (some_or_none p xs)
]

all_fail : {X : Type 0} (p : X → Bool) (xs : List X) → filter p xs ≡ [] → All (λ x. p x ≡ false) xs
all_fail p [] none k d lt = absurd (omega arith)
all_fail p (x ∷ xs) none zero d lt = elim (cases_Bool (p x)) [
  | inl here ↦ absurd (cc)
  | inr other ↦ other
]
all_fail p (x ∷ xs) none (suc k) d lt = elim (cases_Bool (p x)) [
  | inl here ↦ absurd (cc)
  | inr other ↦ all_fail p xs (rw other at none) k d (omega arith)
]

-- ---- answers of a comparison

tied : (r : Ordering) → (not (is_lt (ordering_reverse r)) && not (is_lt r)) ≡ is_eq r
tied Less = refl
tied Equal = refl
tied Greater = refl

lt_low : (r : Ordering) → is_lt r ≡ true → ordering_index r ≤ 0
lt_low Less h = omega arith
lt_low Equal h = absurd (cc)
lt_low Greater h = absurd (cc)

low_lt : (r : Ordering) → ordering_index r ≤ 0 → is_lt r ≡ true
low_lt Less h = refl
low_lt Equal h = absurd (omega arith)
low_lt Greater h = absurd (omega arith)

le_low : (r : Ordering) → is_le r ≡ true → ordering_index r ≤ 1
le_low Less h = omega arith
le_low Equal h = omega arith
le_low Greater h = absurd (cc)

low_le : (r : Ordering) → ordering_index r ≤ 1 → is_le r ≡ true
low_le Less h = refl
low_le Equal h = refl
low_le Greater h = absurd (omega arith)

lt_apart : (r : Ordering) → is_lt r ≡ true → is_eq r ≡ false
lt_apart Less h = refl
lt_apart Equal h = absurd (cc)
lt_apart Greater h = refl

gt_apart : (r : Ordering) → is_le r ≡ false → is_eq r ≡ false
gt_apart Less h = refl
gt_apart Equal h = absurd (cc)
gt_apart Greater h = refl

between : (r : Ordering) → is_lt r ≡ false → is_le r ≡ true → is_eq r ≡ true
between Less h k = absurd (cc)
between Equal h k = refl
between Greater h k = absurd (cc)

-- ---- things in the order of their keys

module _ {X K : Type 0} {R : K → K → Ordering} (o : IsTotalOrder R) (key : X → K) (k : K) where
  abbrev is_at : X → Bool
  is_at x = is_eq (R (key x) k)

  ties_at : (x y : X) → R (key x) k ≡ Equal → ties (λ a b. is_lt (R (key a) (key b))) x y ≡ is_at y
  ties_at x y e =
      ap (λ r. not (is_lt r) && not (is_lt (R (key y) (key x)))) (o.congr (key x) k (key y) e ∙ o.antisymm k (key y))
      ∙ ap (λ r. not (is_lt (ordering_reverse (R (key y) k))) && not (is_lt r)) (alike_right o (key x) k (key y) e) ∙ tied (R (key y) k)

  -- A stable sort keeps those of one key.
  pub kept_at : (xs ys : List X) → IsPermutation xs ys → IsStableByKey key R xs ys → filter is_at ys ≡ filter is_at xs
  kept_at xs ys shuffled stable = elim (some_or_none is_at xs) [
    | inl some ↦
        let e = (Equal-is (R (key some.0) k)).0 some.1 in
        let same : ties (λ a b. is_lt (R (key a) (key b))) some.0 ≡ is_at = λ i y. ties_at some.0 y e i in
        ap (λ p. filter p ys) (sym same) ∙ stable some.0 ∙ ap (λ p. filter p xs) same
    | inr none ↦ filter_none is_at ys (All-permutation (λ x. is_at x ≡ false) xs ys shuffled (all_fail is_at xs none)) ∙ sym none
  ]

  rises : (xs : List X) → IsSortedByKey key R xs → IsNonDecreasingBy (λ x. ordering_index (R (key x) k)) xs
  rises xs sorted = searchable_from_sorted o key xs k sorted

  pub parted_lt : (xs : List X) → IsSortedByKey key R xs → IsPartitionedBy (λ x. is_lt (R (key x) k)) xs
  parted_lt xs sorted i j d le lt h = low_lt _ (omega (arith, rises xs sorted i j d le lt, lt_low _ h))

  pub parted_le : (xs rest : List X) (from : ℕ) → rest ≡ drop from xs → IsSortedByKey key R xs → IsPartitionedBy (λ x. is_le (R (key x) k)) rest
  parted_le xs rest from is sorted i j d le lt h =
      let long = ap length is ∙ length-drop from xs in
      let at_i = ap (λ l. get_or l i d) is ∙ get_or-drop from xs i d in
      let at_j = ap (λ l. get_or l j d) is ∙ get_or-drop from xs j d in
      let up = rises xs sorted (from + i) (from + j) d (omega arith) (omega arith) in
      low_le _ (omega (arith, ap (λ x. ordering_index (R (key x) k)) at_i, ap (λ x. ordering_index (R (key x) k)) at_j, up, le_low _ h))

  -- Those of one key stand between two points.
  pub found_between : (xs rest : List X) (from count : ℕ) → rest ≡ drop from xs
      → IsPartitionPoint (λ x. is_lt (R (key x) k) ≡ true) (λ x. is_lt (R (key x) k) ≡ false) xs from
      → IsPartitionPoint (λ x. is_le (R (key x) k) ≡ true) (λ x. is_le (R (key x) k) ≡ false) rest count
      → take count rest ≡ filter is_at xs
  found_between xs rest from count is below within =
      let whole : length rest ≡ length xs - from = ap length is ∙ length-drop from xs in
      let before : filter is_at (take from xs) ≡ [] =
      filter_none is_at (take from xs) (λ i d lt.
      let long = length-take from xs in
      ap is_at (get_or-take from xs i d (omega arith)) ∙ lt_apart _ (below.0 i d (omega arith) (omega arith))) in
      let here : filter is_at (take count rest) ≡ take count rest =
      filter_all is_at (take count rest) (λ i d lt.
      let long = length-take count rest in
      let there = ap (λ l. get_or l i d) is ∙ get_or-drop from xs i d in
      let upper = within.0 i d (omega arith) (omega arith) in
      let lower = ap (λ x. is_lt (R (key x) k)) there ∙ below.1 (from + i) d (omega arith) (omega arith) in
      ap is_at (get_or-take count rest i d (omega arith)) ∙ between _ lower upper) in
      let behind : filter is_at (drop count rest) ≡ [] =
      filter_none is_at (drop count rest) (λ i d lt.
      let long = length-drop count rest in
      ap is_at (get_or-drop count rest i d) ∙ gt_apart _ (within.1 (count + i) d (omega arith) (omega arith))) in
      let second : filter is_at rest ≡ take count rest =
      ap (filter is_at) (sym (take-append-drop count rest)) ∙ filter-append is_at (take count rest) (drop count rest) ∙ ap (λ l. l ++ filter is_at (drop count rest)) here
      ∙ ap (λ l. take count rest ++ l) behind ∙ append-nil (take count rest) in
      let split : xs ≡ take from xs ++ rest = sym (take-append-drop from xs) ∙ ap (λ l. take from xs ++ l) (sym is) in
      sym (ap (filter is_at) split ∙ filter-append is_at (take from xs) rest ∙ ap (λ l. l ++ filter is_at rest) before ∙ second)

-- ---- a front of one thing, or of none

module _ {X : Type 0} (p : X → Bool) (xs : List X) (d : X) where
  pub front_none : (0 < length xs → p (get_or xs 0 d) ≡ false) → IsPartitionedBy p xs → IsPartitionPoint (λ x. p x ≡ true) (λ x. p x ≡ false) xs 0
  front_none first parted = (
    λ k e low high. absurd (omega (arith, high)),
    λ k e low high. elim (cases_Bool (p (get_or xs k e))) [
      | inl is ↦ absurd (true≢false (sym (parted 0 k e low high is) ∙ ap p (get_or_default xs 0 e d (omega (arith, high))) ∙ first (omega (arith, high))))
      | inr other ↦ other
    ],
  )

  pub front_one : 0 < length xs → p (get_or xs 0 d) ≡ true → (1 < length xs → p (get_or xs 1 d) ≡ false) → IsPartitionedBy p xs
      → IsPartitionPoint (λ x. p x ≡ true) (λ x. p x ≡ false) xs 1
  front_one some first second parted = (
    λ k e low high. let zero : k ≡ 0 = omega (arith, high) in ap (λ n. p (get_or xs n e)) zero ∙ ap p (get_or_default xs 0 e d some) ∙ first,
    λ k e low high. elim (cases_Bool (p (get_or xs k e))) [
      | inl is ↦ absurd (true≢false (sym (parted 1 k e low high is) ∙ ap p (get_or_default xs 1 e d (omega (arith, low, high))) ∙ second (omega (arith, low, high))))
      | inr other ↦ other
    ],
  )

-- Lists of things whose numbers rise, and how they are searched by halves.
use Rattle.std.proofs.Common.{◌≡◌, ℕ, zero, suc, ◌+◌, ◌-◌, ◌≤◌, ◌<◌, Bool, true, false, eqb, ltb, not, Option, Some, None, Ok, Err, List, [], ◌∷◌, length, get_or, refl, sym, ap, ◌∙◌, inl, inr, arith, is_lt}
use Rattle.std.specs.Prelude.{◌&&◌, ◌==◌, option_map, filter}
use Rattle.std.specs.List.{find}
use Rattle.std.specs.List.Sorted.{IsBinarySearchResult, IsNonDecreasingBy, IsPartitionPoint, IsPartitionedBy, IsSortedByKey, IsStableByKey, ties}
use Rattle.std.specs.Ordering.{nat_cmp, ordering_index}
use Rattle.std.proofs.lemmas.Bool.{cases_Bool, cases_lt, eq-eqb, ne_eqb, ltb-true, ltb-false}
use Rattle.std.proofs.lemmas.Bool.Decides.{nat_tests}
use Rattle.std.proofs.lemmas.Cmp.{ranked}
use Rattle.std.proofs.lemmas.List.{get_or_default}
use Rattle.std.proofs.lemmas.List.Sorted.{IsNonDecreasingBy-from_sort}
use Rattle.hii_bytes.specs.code.FirstFaults.{Rise}
use Rattle.hii_bytes.specs.code.IdTables.{number_with}
use Rattle.hii_bytes.specs.declared.id_table.IdEntry.{IdEntry}

-- ---- things whose numbers rise

module _ {X : Type 0} (place : X → ℕ) where
  -- what follows is not below
  above : (low : ℕ) (xs : List X) (i : ℕ) (d : X) → Rise place low xs → i < length xs → low ≤ place (get_or xs i d)
  above low [] i d r lt = absurd (omega arith)
  above low (x ∷ xs) zero d r lt = r.0
  above low (x ∷ xs) (suc i) d r lt = omega (arith, r.0, above (place x + 1) xs i d r.1 (omega arith))

  ordered : (low : ℕ) (xs : List X) (i j : ℕ) (d : X) → Rise place low xs → i ≤ j → j < length xs → place (get_or xs i d) ≤ place (get_or xs j d)
  ordered low [] i j d r le lt = absurd (omega arith)
  ordered low (x ∷ xs) zero zero d r le lt = omega arith
  ordered low (x ∷ xs) zero (suc j) d r le lt = omega (arith, above (place x + 1) xs j d r.1 (omega arith))
  ordered low (x ∷ xs) (suc i) zero d r le lt = absurd (omega arith)
  ordered low (x ∷ xs) (suc i) (suc j) d r le lt = ordered (place x + 1) xs i j d r.1 (omega arith) (omega arith)

  -- the comparisons with a place rise too, as a binary search asks
  compared : (low p : ℕ) (xs : List X) → Rise place low xs → IsNonDecreasingBy (λ x. ordering_index (nat_cmp (place x) p)) xs
  compared low p xs r i j d le lt = let up = ordered low xs i j d r le lt in grind (arith, nat_tests)

  -- what stands at a place is the first there
  first : (low p : ℕ) (xs : List X) (i : ℕ) (d : X) → Rise place low xs → i < length xs → place (get_or xs i d) ≡ p → find (λ x. eqb (place x) p) xs ≡ Some (get_or xs i d)
  first low p [] i d r lt is = absurd (omega arith)
  first low p (x ∷ xs) zero d r lt is = rw (eq-eqb (place x) p is) refl
  first low p (x ∷ xs) (suc i) d r lt is =
      let later : place x + 1 ≤ place (get_or xs i d) = above (place x + 1) xs i d r.1 (omega arith) in
      let other : eqb (place x) p ≡ false = ne_eqb (place x) p (λ e. omega arith) in
      rw other (first (place x + 1) p xs i d r.1 (omega arith) is)

  pub nowhere : (p : ℕ) (xs : List X) → ((i : ℕ) (d : X) → i < length xs → place (get_or xs i d) ≡ p → ⊥) → find (λ x. eqb (place x) p) xs ≡ None
  nowhere p [] none = refl
  nowhere p (x ∷ xs) none = rw (ne_eqb (place x) p (none 0 x (omega arith))) (nowhere p xs (λ i d lt. none (suc i) d (omega arith)))

  -- what a binary search finds
  pub searched : (low p : ℕ) (xs : List X) (at : ℕ) (d : X) → Rise place low xs → at < length xs → IsBinarySearchResult (λ x. nat_cmp (place x) p) xs (Ok at) → find (λ x. eqb (place x) p) xs ≡ Some (get_or xs at d)
  searched low p xs at d r lt equal = first low p xs at d r lt (ranked _ p _ (sym (equal d)))

  pub not_found : (low p : ℕ) (xs : List X) (at : ℕ) → Rise place low xs → at ≤ length xs → IsBinarySearchResult (λ x. nat_cmp (place x) p) xs (Err at) → find (λ x. eqb (place x) p) xs ≡ None
  not_found low p xs at r within parted =
      let split = parted (compared low p xs r) in
      nowhere p xs (λ i d lt is. elim (cases_lt i at) [
        | inl before ↦ let less : place (get_or xs i d) < p = ranked _ p _ (sym (split.0 i d (omega arith) before)) in omega arith
        | inr from ↦ let more : p < place (get_or xs i d) = ranked _ p _ (sym (split.1 i d from lt)) in omega arith
      ])

-- ---- the first of things in the order of their keys that has one of these, by halving

tied : (a b : ℕ) → (not (is_lt (nat_cmp a b)) && not (is_lt (nat_cmp b a))) ≡ eqb b a
tied a b = grind (arith, nat_tests)

find_here : {X : Type 0} (p : X → Bool) (xs : List X) (i : ℕ) (d : X) → i < length xs → ((j : ℕ) → j < i → p (get_or xs j d) ≡ false) → p (get_or xs i d) ≡ true → find p xs ≡ Some (get_or xs i d)
find_here p [] i d lt before here = absurd (omega arith)
find_here p (x ∷ xs) zero d lt before here = rw here refl
find_here p (x ∷ xs) (suc i) d lt before here = rw (before 0 (omega arith)) (find_here p xs i d (omega arith) (λ j below. before (suc j) (omega arith)) here)

module _ {X : Type 0} (key : X → ℕ) where
  pub parted : (xs : List X) (k : ℕ) → IsSortedByKey key nat_cmp xs → IsPartitionedBy (λ x. ltb (key x) k) xs
  parted xs k sorted i j d le lt h =
      let up : key (get_or xs i d) ≤ key (get_or xs j d) = IsNonDecreasingBy-from_sort key xs sorted i j d le lt in
      grind (arith, nat_tests)

  pub first_there : (xs : List X) (k first : ℕ) (d : X) → IsPartitionPoint (λ x. ltb (key x) k ≡ true) (λ x. ltb (key x) k ≡ false) xs first
      → first < length xs → key (get_or xs first d) ≡ k → find (λ x. eqb (key x) k) xs ≡ Some (get_or xs first d)
  first_there xs k first d split lt is =
      find_here (λ x. eqb (key x) k) xs first d lt (λ j below. let less : ltb (key (get_or xs j d)) k ≡ true = split.0 j d (omega arith) below in grind (arith, nat_tests))
      (eq-eqb (key (get_or xs first d)) k is)

  pub first_past : (xs : List X) (k first : ℕ) → IsPartitionPoint (λ x. ltb (key x) k ≡ true) (λ x. ltb (key x) k ≡ false) xs first
      → IsSortedByKey key nat_cmp xs → (d : X) → (first < length xs → key (get_or xs first d) ≡ k → ⊥) → find (λ x. eqb (key x) k) xs ≡ None
  first_past xs k first split sorted d other = nowhere key k xs (λ i e lt is. elim (cases_lt i first) [
    | inl below ↦ let less : ltb (key (get_or xs i e)) k ≡ true = split.0 i e (omega arith) below in absurd (omega (arith, ltb-true _ k less))
    | inr from ↦
        let up : key (get_or xs first e) ≤ key (get_or xs i e) = IsNonDecreasingBy-from_sort key xs sorted first i e from lt in
        let same : key (get_or xs first d) ≡ key (get_or xs first e) = ap key (get_or_default xs first d e (omega arith)) in
        let above : ltb (key (get_or xs first d)) k ≡ false = split.1 first d (omega arith) (omega arith) in
        other (omega arith) (omega (arith, ltb-false _ k above))
  ])

  -- the first of a key, where the one before it has a lower key
  pub begins : (xs : List X) (k at : ℕ) (d : X) → IsSortedByKey key nat_cmp xs → at < length xs → key (get_or xs at d) ≡ k → (0 < at → key (get_or xs (at - 1) d) < k)
      → find (λ x. eqb (key x) k) xs ≡ Some (get_or xs at d)
  begins xs k at d sorted lt is before =
      find_here (λ x. eqb (key x) k) xs at d lt (λ j below.
      let less : key (get_or xs (at - 1) d) < k = before (omega (arith, below)) in
      let up : key (get_or xs j d) ≤ key (get_or xs (at - 1) d) = IsNonDecreasingBy-from_sort key xs sorted j (at - 1) d (omega (arith, below)) (omega (arith, lt)) in
      ne_eqb (key (get_or xs j d)) k (λ e. omega (arith, less, up, e)))
      (eq-eqb (key (get_or xs at d)) k is)

  -- A stable sort keeps those of one key.
  pub kept_of_key : (xs ys : List X) (k : ℕ) (like : X) → key like ≡ k → IsStableByKey key nat_cmp xs ys → filter (λ x. key x == k) ys ≡ filter (λ x. key x == k) xs
  kept_of_key xs ys k like is stable =
      let same : ties (λ x y. is_lt (nat_cmp (key x) (key y))) like ≡ (λ x. key x == k) = λ i x. (tied (key like) (key x) ∙ ap (eqb (key x)) is) i in
      ap (λ p. filter p ys) (sym same) ∙ stable like ∙ ap (λ p. filter p xs) same

pub first_of : {X : Type 0} → List X → Option X
first_of [] = None
first_of (x ∷ xs) = Some x

pub find_first : {X : Type 0} (p : X → Bool) (xs : List X) → find p xs ≡ first_of (filter p xs)
unfolding first_of
find_first p [] = refl
find_first p (x ∷ xs) = elim (cases_Bool (p x)) [ inl is ↦ rw is refl | inr other ↦ rw other (find_first p xs) ]

-- ---- entries by their ids

-- sorting keeps which entry of an id is the first
pub same_numbers : (all sorted : List IdEntry) → IsStableByKey (λ (e : IdEntry). e.id) nat_cmp all sorted → (id : ℕ) → number_with sorted id ≡ number_with all id
same_numbers all sorted stable id =
    let kept : filter (λ (e : IdEntry). eqb e.id id) sorted ≡ filter (λ (e : IdEntry). eqb e.id id) all =
    kept_of_key (λ (e : IdEntry). e.id) all sorted id (record { id = id; number = 0 }) refl stable in
    ap (option_map (λ (e : IdEntry). e.number)) (find_first (λ (e : IdEntry). eqb e.id id) sorted ∙ ap first_of kept ∙ sym (find_first (λ (e : IdEntry). eqb e.id id) all))

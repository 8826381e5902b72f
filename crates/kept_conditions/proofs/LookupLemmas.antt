-- A condition is found among dependents, at its place by halving and by the number of its guard.
use Rattle.std.proofs.Common.{◌≡◌, ℕ, zero, suc, ◌+◌, ◌≤◌, ◌<◌, ◌==◌, ◌&&◌, Bool, true, false, Some, None, Option, Ok, Err, List, [], ◌∷◌, length, get_or, map, filter, refl, sym, ap, ◌∙◌, subst, arith, inl, inr, ◌++◌, take, drop, slice_set, nat_lt}
use Rattle.std.specs.List.{find}
use Rattle.std.specs.List.Sorted.{IsBinarySearchResult}
use Rattle.std.specs.Ordering.{nat_cmp}
use Rattle.std.proofs.lemmas.Bool.{cases_Bool, cond-true, cond-false, eqb-true, eq-eqb, ne_eqb}
use Rattle.std.proofs.lemmas.Bool.Decides.{nat_tests}
use Rattle.std.proofs.lemmas.List.{length-map}
use Rattle.std.proofs.lemmas.List.Sums.{prefix_len-le-length}
use Rattle.std.proofs.Math.Seq.{take-append_seam}
use Rattle.hii_bytes.specs.code.FirstFaults.{Rise}
use Rattle.hii_bytes.proofs.SearchLemmas.{searched, not_found}
use Rattle.ifr_opcodes.specs.Forest.{Node}
use Rattle.ifr_nodes.specs.Accepted.{IsAccepted}
use Rattle.ifr_nodes.specs.Nodes.{nodes_of}
use Rattle.ifr_index.proofs.IndexLemmas.{nodes_rise}
use Rattle.guard_policy.proofs.RemovedLemmas.{Ascend, from_zero, places_ascend}
use Rattle.kept_conditions.specs.Kept.{Told, held, holds_if}
use Rattle.kept_conditions.specs.code.Cache.{value_of}
use Rattle.kept_conditions.specs.code.Dependents.{is_condition, passed}
use Rattle.kept_conditions.specs.declared.dependents.Dependent.{Dependent}

abbrev place_of : Dependent → ℕ
place_of c = c.place

pub rise_from : (low : ℕ) (cs : List Dependent) → Rise (λ (x : ℕ). x) low (map place_of cs) → Rise place_of low cs
rise_from low [] r = tt
rise_from low (c ∷ cs) r = (r.0, rise_from (c.place + 1) cs r.1)

-- what is told at a place of dependents
abbrev told : List Dependent → ℕ → Bool
told xs p = held (map value_of (filter is_condition xs)) p

abbrev dependent_at : List Dependent → ℕ → Option Dependent
dependent_at xs p = find (λ x. place_of x == p) xs

-- a dependent that is not at the place is passed over
past : (p : ℕ) (x : Dependent) (xs : List Dependent) → (place_of x == p) ≡ false → told (x ∷ xs) p ≡ told xs p
past p x xs other = elim (cases_Bool (is_condition x)) [
  | inl takes ↦
      ap (λ l. held (map value_of l) p) (cond-true (is_condition x) (x ∷ filter is_condition xs) (filter is_condition xs) takes)
      ∙ ap holds_if (cond-false (place_of x == p) (Some (value_of x)) (find (λ (t : Told). t.place == p) (map value_of (filter is_condition xs))) other)
  | inr leaves ↦ ap (λ l. held (map value_of l) p) (cond-false (is_condition x) (x ∷ filter is_condition xs) (filter is_condition xs) leaves)
]

none_told : (p : ℕ) (xs : List Dependent) → dependent_at xs p ≡ None → told xs p ≡ false
none_told p [] e = refl
none_told p (x ∷ xs) e = elim (cases_Bool (place_of x == p)) [
  | inl here ↦ let bad : Some x ≡ None = rw here at e in absurd cc
  | inr other ↦ past p x xs other ∙ none_told p xs (rw other at e)
]

-- none of those above a place is at it
none_above : (low p : ℕ) (xs : List Dependent) → p < low → Rise place_of low xs → dependent_at xs p ≡ None
none_above low p [] less r = refl
none_above low p (x ∷ xs) less r = rw (ne_eqb (place_of x) p (λ e. omega (arith, e, less, r.0))) (none_above (place_of x + 1) p xs (omega (arith, less, r.0)) r.1)

here_told : (p : ℕ) (x : Dependent) (xs : List Dependent) → (place_of x == p) ≡ true → told xs p ≡ false → told (x ∷ xs) p ≡ (is_condition x && x.holds)
here_told p x xs here later = elim (cases_Bool (is_condition x)) [
  | inl takes ↦
      ap (λ l. held (map value_of l) p) (cond-true (is_condition x) (x ∷ filter is_condition xs) (filter is_condition xs) takes)
      ∙ ap holds_if (cond-true (place_of x == p) (Some (value_of x)) (find (λ (t : Told). t.place == p) (map value_of (filter is_condition xs))) here)
      ∙ sym (ap (λ b. b && x.holds) takes)
  | inr leaves ↦
      ap (λ l. held (map value_of l) p) (cond-false (is_condition x) (x ∷ filter is_condition xs) (filter is_condition xs) leaves)
      ∙ later ∙ sym (ap (λ b. b && x.holds) leaves)
]

one_told : (low p : ℕ) (xs : List Dependent) (y : Dependent) → Rise place_of low xs → dependent_at xs p ≡ Some y → told xs p ≡ (is_condition y && y.holds)
one_told low p [] y r e = absurd cc
one_told low p (x ∷ xs) y r e = elim (cases_Bool (place_of x == p)) [
  | inl here ↦
      let found : Some x ≡ Some y = rw here at e in
      let is : x ≡ y = cc in
      let at : place_of x ≡ p = eqb-true (place_of x) p here in
      let later = none_told p xs (none_above (place_of x + 1) p xs (omega (arith, at)) r.1) in
      subst (λ (z : Dependent). told (x ∷ xs) p ≡ (is_condition z && z.holds)) is (here_told p x xs here later)
  | inr other ↦ past p x xs other ∙ one_told (place_of x + 1) p xs y r.1 (rw other at e)
]

pub found_at : (p : ℕ) (xs : List Dependent) (at : ℕ) (d : Dependent) → Rise (λ (x : ℕ). x) 0 (map place_of xs) → at < length xs → IsBinarySearchResult (λ x. nat_cmp (place_of x) p) xs (Ok at)
    → held (map value_of (filter is_condition xs)) p ≡ (is_condition (get_or xs at d) && (get_or xs at d).holds)
found_at p xs at d r lt equal = one_told 0 p xs (get_or xs at d) (rise_from 0 xs r) (searched place_of 0 p xs at d (rise_from 0 xs r) lt equal)

pub none_at : (p : ℕ) (xs : List Dependent) (at : ℕ) → Rise (λ (x : ℕ). x) 0 (map place_of xs) → at ≤ length xs → IsBinarySearchResult (λ x. nat_cmp (place_of x) p) xs (Err at) → held (map value_of (filter is_condition xs)) p ≡ false
none_at p xs at r within parted = none_told p xs (not_found place_of 0 p xs at (rise_from 0 xs r) within parted)

-- a dependent that is found by its number
no_lower : (low : ℕ) (xs : List Dependent) (k : ℕ) (d : Dependent) → Rise place_of low xs → k < length xs → low ≤ place_of (get_or xs k d)
no_lower low [] k d r lt = absurd (omega (arith, lt))
no_lower low (x ∷ xs) zero d r lt = r.0
no_lower low (x ∷ xs) (suc k) d r lt = let later = no_lower (place_of x + 1) xs k d r.1 (omega (arith, lt)) in omega (arith, r.0, later)

found_so : (low p : ℕ) (xs : List Dependent) (k : ℕ) (d : Dependent) → Rise place_of low xs → k < length xs → place_of (get_or xs k d) ≡ p → dependent_at xs p ≡ Some (get_or xs k d)
found_so low p [] k d r lt e = absurd (omega (arith, lt))
found_so low p (x ∷ xs) zero d r lt e = rw (eq-eqb (place_of x) p e) refl
found_so low p (x ∷ xs) (suc k) d r lt e =
    let behind = no_lower (place_of x + 1) xs k d r.1 (omega (arith, lt)) in
    rw (ne_eqb (place_of x) p (λ same. omega (arith, same, e, behind))) (found_so (place_of x + 1) p xs k d r.1 (omega (arith, lt)) e)

pub told_at : (p : ℕ) (xs : List Dependent) (k : ℕ) (d : Dependent) → Rise (λ (x : ℕ). x) 0 (map place_of xs) → k < length xs → place_of (get_or xs k d) ≡ p
    → held (map value_of (filter is_condition xs)) p ≡ (is_condition (get_or xs k d) && (get_or xs k d).holds)
told_at p xs k d r lt e = one_told 0 p xs (get_or xs k d) (rise_from 0 xs r) (found_so 0 p xs k d (rise_from 0 xs r) lt e)

-- ---- how many dependents stand before places

abbrev node_place : Node → ℕ
node_place n = n.place

-- before a place further on stand no fewer
pub passed_more : (p q : ℕ) (rs : List Dependent) → p ≤ q → passed p rs ≤ passed q rs
passed_more p q [] le = omega arith
passed_more p q (r ∷ rs) le = elim (cases_Bool (nat_lt r.place p)) [
  | inl before ↦
      let after : nat_lt r.place q ≡ true = grind (arith, nat_tests) in
      let later = passed_more p q rs le in
      rw (before, after) (omega (arith, later))
  | inr other ↦ rw other (omega arith)
]

-- some of them are left out
pub passed_from : (p : ℕ) (rs : List Dependent) (k : ℕ) → k ≤ passed p rs → passed p rs ≡ k + passed p (drop k rs)
passed_from p rs zero le = omega arith
passed_from p [] (suc k) le = absurd (omega (arith, le))
passed_from p (r ∷ rs) (suc k) le = elim (cases_Bool (nat_lt r.place p)) [
  | inl before ↦
      let within : suc k ≤ 1 + passed p rs = rw before at le in
      let later = passed_from p rs k (omega (arith, within)) in
      rw before (omega (arith, later))
  | inr other ↦ let none : suc k ≤ 0 = rw other at le in absurd (omega (arith, none))
]

pub passed_within : (p : ℕ) (rs : List Dependent) → passed p rs ≤ length rs
passed_within p rs = prefix_len-le-length (λ (r : Dependent). nat_lt r.place p) rs

-- there are no more than places
pub passed_low : (low p : ℕ) (rs : List Dependent) → Rise place_of low rs → low ≤ p → low + passed p rs ≤ p
passed_low low p [] r le = omega arith
passed_low low p (x ∷ rs) r le = elim (cases_Bool (nat_lt x.place p)) [
  | inl before ↦
      let less : x.place < p = grind (arith, nat_tests) in
      let later = passed_low (x.place + 1) p rs r.1 (omega (arith, less)) in
      rw before (omega (arith, r.0, later))
  | inr other ↦ rw other (omega arith)
]

-- So many dependents stand before all places that are left, which rise.
abbrev pub Precedes : ℕ → List Dependent → List ℕ → Type 0
Precedes next rs left = (low : ℕ) × (next ≤ passed low rs) × Ascend low left

-- the next place
pub record IsNextPlace (next : ℕ) (rs : List Dependent) (p : ℕ) (rest : List ℕ) : Type 0 where
  pub within : next ≤ length rs
  pub is : next + passed p (drop next rs) ≡ passed p rs
  pub few : passed p rs ≤ p
  pub precedes : Precedes (passed p rs) rs rest

pub next_place : (next : ℕ) (rs : List Dependent) (left : List ℕ) (p : ℕ) (rest : List ℕ) → Rise place_of 0 rs → left ≡ p ∷ rest → Precedes next rs left → IsNextPlace next rs p rest
next_place next rs left p rest rise e before = go (subst (Precedes next rs) e before)
  where
    go : Precedes next rs (p ∷ rest) → IsNextPlace next rs p rest
    go (low, le, up) =
        let more = passed_more low p rs up.0 in
        record {
          within = omega (arith, le, passed_within low rs);
          is = sym (passed_from p rs next (omega (arith, le, more)));
          few = let low = passed_low 0 p rs rise (omega arith) in omega (arith, low);
          precedes = (p + 1, passed_more p (p + 1) rs (omega arith), up.1);
        }

-- ---- places that are replaced one by one

-- the first are replaced, the others stay
abbrev pub replaced : (ℕ → ℕ) → ℕ → List ℕ → List ℕ
replaced f i ps = map f (take i ps) ++ drop i ps

pub next_there : (f : ℕ → ℕ) (i : ℕ) (ps : List ℕ) → i < length ps → drop i ps ≡ get_or (replaced f i ps) i 0 ∷ drop (suc i) ps
next_there f i [] lt = absurd (omega arith)
next_there f zero (p ∷ ps) lt = refl
next_there f (suc i) (p ∷ ps) lt = next_there f i ps (omega arith)

pub one_more : (f : ℕ → ℕ) (i : ℕ) (ps : List ℕ) → i < length ps → slice_set (replaced f i ps) i (f (get_or (replaced f i ps) i 0)) ≡ replaced f (suc i) ps
one_more f i [] lt = absurd (omega arith)
one_more f zero (p ∷ ps) lt = refl
one_more f (suc i) (p ∷ ps) lt = ap (λ (l : List ℕ). f p ∷ l) (one_more f i ps (omega arith))

pub all_replaced : (f : ℕ → ℕ) (ps : List ℕ) → replaced f (length ps) ps ≡ map f ps
all_replaced f [] = refl
all_replaced f (p ∷ ps) = ap (λ (l : List ℕ). f p ∷ l) (all_replaced f ps)

-- ---- the places of nodes of a kind

pub kind_rises : (bytes : List ℕ) (is : Node → Bool) → IsAccepted bytes → Ascend 0 (map node_place (filter is (nodes_of bytes)))
kind_rises bytes is accepted = from_zero 4 (map node_place (filter is (nodes_of bytes))) (places_ascend is 4 (nodes_of bytes) (nodes_rise bytes accepted.checked.spelled))

pub dependents_of_kind : (rs : List Dependent) (ns : List Node) → map (λ (p : ℕ). passed p rs) (map node_place ns) ≡ map (λ (n : Node). passed n.place rs) ns
dependents_of_kind rs [] = refl
dependents_of_kind rs (n ∷ ns) = ap (λ (l : List ℕ). passed n.place rs ∷ l) (dependents_of_kind rs ns)

-- what is left of a list that was written as a slice
pub numbered_slice : (rs : List Dependent) (ns : List Node) (len : ℕ) (now new old : List ℕ) → length now ≡ len → now ≡ map node_place ns → new ≡ map (λ (p : ℕ). passed p rs) now
    → take len (new ++ drop (length new) old) ≡ map (λ (n : Node). passed n.place rs) ns
numbered_slice rs ns len now new old long places is =
    let same : length new ≡ len = ap (λ (l : List ℕ). length l) is ∙ length-map now (λ (p : ℕ). passed p rs) ∙ long in
    ap (λ (k : ℕ). take k (new ++ drop (length new) old)) (sym same) ∙ take-append_seam new (drop (length new) old) ∙ is ∙ ap (map (λ (p : ℕ). passed p rs)) places ∙ dependents_of_kind rs ns

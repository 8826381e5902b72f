-- The first of things that have a key, among those that are sorted by their keys.
use Rattle.std.proofs.Common.{◌≡◌, ◌≤◌, ℕ, true, false, arith, length, ltb, eqb, Option, Some, None, List, [], ◌∷◌, refl, sym, ap, ◌∙◌, inl, inr}
use Rattle.std.specs.Prelude.{filter}
use Rattle.std.specs.List.{find}
use Rattle.std.specs.List.Sorted.{IsStableByKey, IsPartitionPoint, IsSortedByKey}
use Rattle.std.specs.Ordering.{nat_cmp}
use Rattle.std.proofs.lemmas.Bool.{cases_Bool, eqb-true}
use Rattle.hii_bytes.proofs.SearchLemmas.{kept_of_key, find_first, first_of, first_past}

module _ {X : Type 0} (key : X → ℕ) where
  -- what is found has the key
  its_key : (xs : List X) (k : ℕ) (s : X) → find (λ x. eqb (key x) k) xs ≡ Some s → key s ≡ k
  its_key [] k s e = absurd cc
  its_key (x ∷ xs) k s e = elim (cases_Bool (eqb (key x) k)) [
    | inl here ↦ let is : x ≡ s = cc (rw here at e) in ap key (sym is) ∙ eqb-true (key x) k here
    | inr other ↦ its_key xs k s (rw other at e)
  ]

  from_like : (xs ys : List X) (k : ℕ) (like : X) → key like ≡ k → IsStableByKey key nat_cmp xs ys → find (λ x. eqb (key x) k) ys ≡ find (λ x. eqb (key x) k) xs
  from_like xs ys k like is stable =
      let kept : filter (λ x. eqb (key x) k) ys ≡ filter (λ x. eqb (key x) k) xs = kept_of_key key xs ys k like is stable in
      find_first (λ x. eqb (key x) k) ys ∙ ap first_of kept ∙ sym (find_first (λ x. eqb (key x) k) xs)

  by_cases : (xs ys : List X) (k : ℕ) (a b : Option X) → find (λ x. eqb (key x) k) ys ≡ a → find (λ x. eqb (key x) k) xs ≡ b → IsStableByKey key nat_cmp xs ys
      → find (λ x. eqb (key x) k) ys ≡ find (λ x. eqb (key x) k) xs
  by_cases xs ys k (Some s) b e f stable = from_like xs ys k s (its_key ys k s e) stable
  by_cases xs ys k None (Some s) e f stable = from_like xs ys k s (its_key xs k s f) stable
  by_cases xs ys k None None e f stable = e ∙ sym f

  -- Sorting keeps which of a key is the first.
  pub same_first : (xs ys : List X) (k : ℕ) → IsStableByKey key nat_cmp xs ys → find (λ x. eqb (key x) k) ys ≡ find (λ x. eqb (key x) k) xs
  same_first xs ys k stable = by_cases xs ys k (find (λ x. eqb (key x) k) ys) (find (λ x. eqb (key x) k) xs) refl refl stable

-- where all keys are lower, none is found
pub past_all : {X : Type 0} (key : X → ℕ) (xs : List X) (k first : ℕ) → IsPartitionPoint (λ x. ltb (key x) k ≡ true) (λ x. ltb (key x) k ≡ false) xs first
    → IsSortedByKey key nat_cmp xs → length xs ≤ first → find (λ x. eqb (key x) k) xs ≡ None
past_all key [] k first split sorted past = refl
past_all key (x ∷ xs) k first split sorted past = first_past key (x ∷ xs) k first split sorted x (λ lt is. absurd (omega (arith, past, lt)))

-- Texts are counted by their places.
use Rattle.std.proofs.Common.{◌≡◌, ℕ, zero, suc, ◌+◌, ◌<◌, ◌≤◌, ◌^◌, Bool, true, false, cond, inl, inr, List, [], ◌∷◌, Option, None, Some, refl, ap, sym, ◌∙◌, subst, arith}
use Rattle.std.specs.Prelude.{◌&&◌, is_some}
use Rattle.std.specs.List.{All, count_by, range_with_len}
use Rattle.std.proofs.lemmas.Bool.{cases_eq}
use Rattle.std.proofs.lemmas.List.Sums.{sum_by-cons}
use Rattle.std.proofs.lemmas.Bool.Decides.{nat_tests}
use Rattle.browser_rules.specs.Strings.{Spoken}
use Rattle.sibt_strings.specs.Shared.{every_id, has_text, is_in_both, texts_in_both}
use Rattle.sibt_strings.specs.code.Table.{IsTable, Rises, place_of, text_of_place}
use Rattle.sibt_strings.specs.declared.place.TextPlace.{TextPlace}

-- an id below all others has no place
below : (low high : ℕ) (places : List TextPlace) (id : ℕ) → Rises low high places → id < low → place_of places id ≡ None
below low high [] id r lt = refl
below low high (p ∷ places) id r lt = grind (arith, nat_tests, below (p.id + 1) high places id r.1 (omega (arith, lt, r.0)))

-- what is counted of one more
count_first : {X : Type 0} (p : X → Bool) (x : X) (passes : Bool) (xs : List X) → p x ≡ passes → count_by p (x ∷ xs) ≡ cond passes 1 0 + count_by p xs
count_first p x passes xs is = sum_by-cons (λ y. cond (p y) 1 0) x xs ∙ ap (λ (b : Bool). cond b 1 0 + count_by p xs) is

no_place_of : (places : List TextPlace) (id : ℕ) → place_of places id ≡ None → is_some (place_of places id) ≡ true → ⊥
no_place_of places id is has = let bad : false ≡ true = sym (ap is_some is) ∙ has in cc

-- one more id, where those behind it are counted
module _ (P : ℕ → Bool) (n low : ℕ)
    (behind : (high : ℕ) (places : List TextPlace) → Rises (low + 1) high places → All (λ p. p.id < low + suc n) places → ((id : ℕ) → low < id → id < low + suc n → P id ≡ true → is_some (place_of places id) ≡ true)
    → count_by (λ p. P p.id) places ≡ count_by P (range_with_len (low + 1) n)) where
  Has : List TextPlace → Type 0
  Has places = (id : ℕ) → low ≤ id → id < low + suc n → P id ≡ true → is_some (place_of places id) ≡ true

  -- it has no place
  past : (passes : Bool) → P low ≡ passes → (high : ℕ) (places : List TextPlace) → Rises (low + 1) high places → All (λ p. p.id < low + suc n) places → Has places
      → count_by (λ p. P p.id) places ≡ count_by P (low ∷ range_with_len (low + 1) n)
  unfolding Has
  past true is high places r small has = absurd (no_place_of places low (below (low + 1) high places low r (omega arith)) (has low (omega arith) (omega arith) is))
  past false is high places r small has =
      let later = behind high places r small (λ id lt within. has id (omega (arith, lt)) within) in
      let first = count_first P low false (range_with_len (low + 1) n) is in
      omega (arith, later, first)

  here : (high : ℕ) (p : TextPlace) (places : List TextPlace) → p.id ≡ low → Rises (p.id + 1) high places → All (λ p. p.id < low + suc n) (p ∷ places) → Has (p ∷ places)
      → count_by (λ p. P p.id) (p ∷ places) ≡ count_by P (low ∷ range_with_len (low + 1) n)
  unfolding Has
  here high p places same r small has =
      count_first (λ (p : TextPlace). P p.id) p (P low) places (ap P same)
      ∙ ap (λ (k : ℕ). cond (P low) 1 0 + k)
      (behind high places (subst (λ (id : ℕ). Rises (id + 1) high places) same r) (λ k d lt. small (suc k) d (omega (arith, lt)))
      (λ id lt within yes. subst (λ (o : Option ℕ). is_some o ≡ true) (later id lt) (has id (omega (arith, lt)) within yes)))
      ∙ sym (count_first P low (P low) (range_with_len (low + 1) n) refl)
    where
      later : (id : ℕ) → low < id → place_of (p ∷ places) id ≡ place_of places id
      later id lt = grind (arith, nat_tests, lt, same)

  next : (high : ℕ) (places : List TextPlace) → Rises low high places → All (λ p. p.id < low + suc n) places → Has places
      → count_by (λ p. P p.id) places ≡ count_by P (low ∷ range_with_len (low + 1) n)
  unfolding Has
  next high [] r small has = past (P low) refl (low + 1) [] (omega arith) small has
  next high (p ∷ places) r small has = elim (cases_eq p.id low) [
    | inl same ↦ here high p places same r.1 small has
    | inr other ↦ past (P low) refl high (p ∷ places) (omega (arith, r.0, other), r.1) small has
  ]

-- of so many ids from one on, where all places are theirs, those that pass a test have places
pub counted : (P : ℕ → Bool) (n low high : ℕ) (places : List TextPlace) → Rises low high places → All (λ p. p.id < low + n) places
    → ((id : ℕ) → low ≤ id → id < low + n → P id ≡ true → is_some (place_of places id) ≡ true) → count_by (λ p. P p.id) places ≡ count_by P (range_with_len low n)
unfolding Has
counted P zero low high [] r small has = refl
counted P zero low high (p ∷ places) r small has = absurd (omega (arith, r.0, small 0 p (omega arith)))
counted P (suc n) low high places r small has =
    next P n low (λ high rest r small has. counted P n (low + 1) high rest r (λ k d lt. omega (arith, small k d lt)) (λ id le lt. has id (omega (arith, le)) (omega (arith, lt)))) high places r small has

-- the ids that have a text in both, by the places of one table
pub in_both_counted : (bytes : List ℕ) (one other : Spoken) (places : List TextPlace) → IsTable bytes one.texts places → All (λ p. p.id < 2 ^ 16) places → count_by (λ p. is_in_both one other p.id) places ≡ texts_in_both one other
unfolding every_id
in_both_counted bytes one other places table small =
    counted (is_in_both one other) 65535 1 _ places table.rise (λ k d lt. omega (arith, small k d lt)) (λ id le lt yes. has id (omega (arith, lt)) (first_of (has_text one id) (has_text other id) yes))
  where
    first_of : (a b : Bool) → a && b ≡ true → a ≡ true
    first_of true b e = refl
    first_of false b e = e

    has_place : (o : Option ℕ) → is_some (text_of_place bytes o) ≡ true → is_some o ≡ true
    has_place None e = e
    has_place (Some place) e = refl

    has : (id : ℕ) → id < 2 ^ 16 → has_text one id ≡ true → is_some (place_of places id) ≡ true
    has id lt e = has_place (place_of places id) (ap is_some (table.found id lt) ∙ e)

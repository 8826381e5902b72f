-- Things whose places rise, of which those behind a place begin at a point.
use Rattle.std.proofs.Common.{◌≡◌, ℕ, zero, suc, ◌+◌, ◌<◌, ◌≤◌, Bool, true, false, nat_lt, List, [], ◌∷◌, length, drop, get_or, refl, sym, ap, arith}
use Rattle.std.specs.Prelude.{filter}
use Rattle.std.proofs.lemmas.Bool.{lt-ltb, le-ltb}
use Rattle.hii_bytes.specs.code.FirstFaults.{Rise}

module _ {X : Type 0} (place : X → ℕ) (p : ℕ) where
  lowest_at : (low : ℕ) (xs : List X) (i : ℕ) (d : X) → Rise place low xs → i < length xs → low ≤ place (get_or xs i d)
  lowest_at low [] i d r lt = absurd (omega arith)
  lowest_at low (x ∷ xs) zero d r lt = r.0
  lowest_at low (x ∷ xs) (suc i) d r lt = omega (arith, r.0, lowest_at (place x + 1) xs i d r.1 (omega arith))

  all_behind : (low : ℕ) (xs : List X) → Rise place low xs → p < low → filter (λ x. nat_lt p (place x)) xs ≡ xs
  all_behind low [] r less = refl
  all_behind low (x ∷ xs) r less =
      let above : nat_lt p (place x) ≡ true = lt-ltb p (place x) (omega (arith, r.0)) in
      rw above (ap (λ (l : List X). x ∷ l) (all_behind (place x + 1) xs r.1 (omega (arith, r.0))))

  -- the first does not stand behind the place, if none before the point does
  before_first : (low at : ℕ) (x : X) (xs : List X) (d : X) → Rise place low (x ∷ xs) → at ≤ length xs → place (get_or (x ∷ xs) at d) ≤ p → place x ≤ p
  before_first low zero x xs d r within before = before
  before_first low (suc at) x xs d r within before = omega (arith, before, lowest_at (place x + 1) xs at d r.1 (omega (arith, within)))

  pub begin_at : (low at : ℕ) (xs : List X) (d : X) → Rise place low xs → at ≤ length xs
      → ((k : ℕ) → k + 1 ≡ at → place (get_or xs k d) ≤ p) → (at < length xs → p < place (get_or xs at d))
      → drop at xs ≡ filter (λ x. nat_lt p (place x)) xs
  begin_at low zero [] d r within before behind = refl
  begin_at low (suc at) [] d r within before behind = absurd (omega (arith, within))
  begin_at low zero (x ∷ xs) d r within before behind =
      let less : p < place x = behind (omega arith) in
      let above : nat_lt p (place x) ≡ true = lt-ltb p (place x) less in
      rw above (ap (λ (l : List X). x ∷ l) (sym (all_behind (place x + 1) xs r.1 (omega (arith, less)))))
  begin_at low (suc at) (x ∷ xs) d r within before behind =
      let first : place x ≤ p = before_first low at x xs d r (omega (arith, within)) (before at (omega arith)) in
      let below : nat_lt p (place x) ≡ false = le-ltb p (place x) (omega (arith, first)) in
      rw below (begin_at (place x + 1) at xs d r.1 (omega (arith, within)) (λ k e. before (suc k) (omega (arith, e))) (λ less. behind (omega (arith, less))))

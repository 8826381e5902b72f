-- The bytes up to the first that is a given one.
use Rattle.std.proofs.Common.{◌≡◌, ◌==◌, ℕ, Bool, false, suc, ◌+◌, ◌<◌, List, [], ◌∷◌, ◌++◌, length, take, drop, get_or, Option, Some, None, sym, ap, ◌∙◌, arith, inl, inr, append_assoc}
use Rattle.std.proofs.lemmas.Bool.{eqb-true, eqb-false, cond-true, cond-false, cases_lt, lt-ltb, le-ltb}
use Rattle.std.proofs.lemmas.List.{take_all, length-take, get_or-take}
use Rattle.std.proofs.lemmas.List.Sums.{split_at_first, fails_before_first, passes_at_first}
use Rattle.std.specs.List.{position, before_first, position_or_len}
use Rattle.hii_commands.specs.laws.Lines.{Lacks}

Lacks-from_each : (byte : ℕ) (p : List ℕ) → ((k : ℕ) → k < length p → (get_or p k 0 == byte) ≡ false) → Lacks byte p
Lacks-from_each byte [] h = tt
Lacks-from_each byte (b ∷ p) h = (eqb-false b byte (h 0 (omega arith)), Lacks-from_each byte p (λ k less. h (suc k) (omega arith)))

-- what stands before the first of these bytes has none
pub Lacks-before_first : (byte : ℕ) (piece : List ℕ) → Lacks byte (before_first (λ b. b == byte) piece)
Lacks-before_first byte piece =
    let p : ℕ → Bool = λ b. b == byte in
    Lacks-from_each byte _ (λ k less.
    let inside : k < position_or_len p piece = omega (arith, length-take (position_or_len p piece) piece) in
    ap p (get_or-take (position_or_len p piece) piece k 0 inside) ∙ fails_before_first p piece k 0 inside)

-- where there is none, all stands before it
pub piece_whole : (byte : ℕ) (piece : List ℕ) → position (λ b. b == byte) piece ≡ None → before_first (λ b. b == byte) piece ≡ piece
piece_whole byte piece e =
    let at = position_or_len (λ b. b == byte) piece in
    elim (cases_lt at (length piece)) [
      | inl less ↦ let some = cond-true _ (Some at) None (lt-ltb _ _ less) in (cc)
      | inr all ↦ take_all at piece all
    ]

-- the bytes before the first such byte, that byte, and the bytes after it
pub piece_at : (byte : ℕ) (piece : List ℕ) (i : ℕ) → position (λ b. b == byte) piece ≡ Some i →
    (i < length piece) × (before_first (λ b. b == byte) piece ≡ take i piece) × (piece ≡ (before_first (λ b. b == byte) piece ++ byte ∷ []) ++ drop (i + 1) piece)
piece_at byte piece i e =
    let p : ℕ → Bool = λ b. b == byte in
    let at = position_or_len p piece in
    elim (cases_lt at (length piece)) [
      | inl less ↦
          let some : Some at ≡ Some i = sym (cond-true _ (Some at) None (lt-ltb _ _ less)) ∙ e in
          let same : at ≡ i = cc in
          let here : get_or piece at 0 ≡ byte = eqb-true _ byte (passes_at_first p piece 0 less) in (
            omega (arith, same, less),
            ap (λ k. take k piece) same,
            split_at_first p piece 0 less ∙ ap (λ b. before_first p piece ++ b ∷ drop (at + 1) piece) here
                ∙ ap (λ k. before_first p piece ++ byte ∷ drop (k + 1) piece) same ∙ sym (append_assoc (before_first p piece) (byte ∷ []) (drop (i + 1) piece)),
          )
      | inr all ↦ let none : ◌≡◌ {A = Option ℕ} None (Some i) = sym (cond-false _ (Some at) None (le-ltb _ _ all)) ∙ e in (cc)
    ]

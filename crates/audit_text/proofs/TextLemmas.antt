-- Texts are written piece by piece.
use Rattle.std.proofs.Common.{◌≡◌, ℕ, ◌≤◌, List, [], ◌∷◌, length, drop, map, slice_index, sym, ap, arith}
use Rattle.hii_bytes.specs.Watching.{Pen, Writes}
use Rattle.hii_bytes.specs.code.Writing.{Stands}
use Rattle.hii_bytes.proofs.WritingLemmas.{past_piece}

pub past_byte : {a b c : Pen} {text : List ℕ} (show : ℕ → ℕ) (rest behind : List ℕ) → behind ≡ drop 1 rest → 1 ≤ length rest → Stands a b text (map show rest) → Writes b c (show (slice_index rest 0) ∷ []) → Stands a c text (map show behind)
past_byte show [] behind e some s w = absurd (none some)
  where
    none : 1 ≤ 0 → ⊥
    none h = omega arith
past_byte show (byte ∷ rest) behind e some s w = past_piece _ _ _ _ _ (show byte ∷ []) (map show behind) (ap (λ (l : List ℕ). show byte ∷ map show l) (sym e)) s w

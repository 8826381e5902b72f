-- Bytes in hex digits.
use Rattle.std.proofs.Common.{◌≡◌, ℕ, ◌≤◌, List, [], ◌∷◌, ◌++◌, false, length, drop, slice_index, ap, arith, sym}
use Rattle.hii_bytes.specs.Texts.{hex_of}
use Rattle.hii_bytes.specs.Watching.{Pen, Writes}
use Rattle.hii_bytes.specs.code.Writing.{Stands}
use Rattle.hii_bytes.proofs.WritingLemmas.{past_piece}
use Rattle.audit_text.specs.Texts.{digits_of}

-- one more byte in hex digits
pub past_digits : {a b c : Pen} {text : List ℕ} (rest behind : List ℕ) → behind ≡ drop 1 rest → 1 ≤ length rest → Stands a b text (digits_of false rest) → Writes b c (hex_of (slice_index rest 0)) → Stands a c text (digits_of false behind)
past_digits [] behind e some s w = absurd (none some)
  where
    none : 1 ≤ 0 → ⊥
    none h = omega arith
past_digits (byte ∷ rest) behind e some s w = past_piece _ _ _ _ _ (hex_of byte) (digits_of false behind) (ap (λ (l : List ℕ). hex_of byte ++ digits_of false l) (sym e)) s w

-- Bytes in pieces of 8.
use Rattle.std.proofs.Common.{◌≡◌, ◌∙◌, ◌+◌, ◌-◌, ◌<◌, ◌≤◌, ◌/◌, ◌++◌, ℕ, List, [], ◌∷◌, min, suc, length, take, drop, reverse, ap, arith, sym, refl, subst, inl, inr, append-nil, length-append, slice_index, Bool, true, false, not, ◌&&◌}
use Rattle.std.proofs.lemmas.Bool.{cases_lt}
use Rattle.std.proofs.lemmas.List.{drop_all, nil_from_length, reverse-append, take_all, take_more}
use Rattle.std.proofs.Math.Seq.{drop-append_seam, take-append_seam}
use Rattle.hii_bytes.specs.Texts.{hex_of}
use Rattle.hii_bytes.specs.Watching.{Pen, Writes}
use Rattle.hii_bytes.specs.code.Writing.{Stands}
use Rattle.hii_bytes.proofs.WritingLemmas.{past_piece}
use Rattle.ifr_opcodes.specs.Forest.{Node}
use Rattle.audit_text.specs.Texts.{digits_of}
use Rattle.audit_json.specs.declared.telling.Telling.{Telling}
use Rattle.image_audit.specs.Lines.{bytes_told, piece_told}

-- the first eight bytes, or all of fewer, and those behind them
eight : (all chunk rest : List ℕ) → all ≡ chunk ++ rest → length chunk ≡ min 8 (length all) → (take 8 all ≡ chunk) × (drop 8 all ≡ rest)
eight all chunk rest parts size =
    let sum = ap length parts ∙ length-append chunk rest in
    elim (cases_lt (length all) 8) [
      | inl short ↦
          let none : rest ≡ [] = nil_from_length rest (omega (arith, size, sum, short)) in
          let whole : all ≡ chunk = parts ∙ ap (λ (l : List ℕ). chunk ++ l) none ∙ append-nil chunk in
          (take_all 8 all (omega (arith, short)) ∙ whole, drop_all 8 all (omega (arith, short)) ∙ sym none)
      | inr long ↦
          let eight : length chunk ≡ 8 = omega (arith, size, sum, long) in (
            subst (λ (n : ℕ). take n all ≡ chunk) eight (ap (take (length chunk)) parts ∙ take-append_seam chunk rest),
            subst (λ (n : ℕ). drop n all ≡ rest) eight (ap (drop (length chunk)) parts ∙ drop-append_seam chunk rest),
          )
    ]

-- a piece is told, and then the bytes behind it
pub one_piece : (telling : Telling) (ns : List Node) (id store at : ℕ) (all chunk rest : List ℕ) → all ≡ chunk ++ rest → length chunk ≡ min 8 (length all) → 0 < length all
    → bytes_told telling ns id store at all ≡ piece_told telling ns id store at chunk ++ bytes_told telling ns id store (at + 8) rest
one_piece telling ns id store at all chunk rest parts size some =
    let sum = ap length parts ∙ length-append chunk rest in
    let count : (length all + 7) / 8 ≡ suc ((length rest + 7) / 8) = omega (arith, size, sum, some) in
    let cut = eight all chunk rest parts size in
    rw (count, cut.0, cut.1) refl

-- of no bytes nothing is told
pub no_piece : (telling : Telling) (ns : List Node) (id store at : ℕ) (bytes : List ℕ) → length bytes ≡ 0 → bytes_told telling ns id store at bytes ≡ []
no_piece telling ns id store at bytes none = rw none refl

-- the digits of the last byte, and then those of the bytes before it
pub last_digits : (all front : List ℕ) (byte : ℕ) → all ≡ front ++ byte ∷ [] → digits_of false (reverse all) ≡ hex_of byte ++ digits_of false (reverse front)
last_digits all front byte parts = ap (λ (l : List ℕ). digits_of false l) (ap reverse parts ∙ reverse-append front (byte ∷ []))

-- one more byte in hex digits
pub past_last : {a b c : Pen} {text : List ℕ} (rest : List ℕ) → 1 ≤ length rest → Stands a b text (digits_of false (reverse rest)) → Writes b c (hex_of (slice_index rest (length rest - 1)))
    → Stands a c text (digits_of false (reverse (take (length rest - 1) rest)))
past_last rest some s w =
    let k = length rest - 1 in
    let parts : rest ≡ take k rest ++ slice_index rest k ∷ [] = sym (take_all (k + 1) rest (omega (arith, some))) ∙ take_more rest k 0 (omega (arith, some)) in
    past_piece _ _ _ _ _ (hex_of (slice_index rest k)) (digits_of false (reverse (take k rest))) (last_digits rest (take k rest) (slice_index rest k) parts) s w

-- what is told is no password
pub told_is_none : (password differs : Bool) → (not password && differs) ≡ true → password ≡ false
told_is_none true differs told = sym told
told_is_none false differs told = refl

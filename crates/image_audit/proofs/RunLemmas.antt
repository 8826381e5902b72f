-- Bytes that differ.
use Rattle.std.proofs.Common.{◌≡◌, ℕ, ◌+◌, ◌<◌, ◌≤◌, ◌==◌, ◌&&◌, not, Bool, false, List, [], ◌∷◌, ◌++◌, length, drop, ap, sym, arith, refl, get_or, slice_index}
use Rattle.std.proofs.lemmas.List.{drop_more}
use Rattle.hii_bytes.specs.Texts.{hex_of}
use Rattle.hii_bytes.specs.Watching.{Pen, Writes}
use Rattle.hii_bytes.specs.code.Writing.{Stands}
use Rattle.hii_bytes.proofs.WritingLemmas.{past_piece}
use Rattle.ifr_opcodes.specs.Forest.{Node}
use Rattle.audit_text.specs.Texts.{digits_of}
use Rattle.question_audit.specs.QuestionLines.{word_where}
use Rattle.audit_json.specs.declared.telling.Telling.{Telling}
use Rattle.image_audit.specs.Difference.{differing, run_told, runs_told}

-- one more byte in hex digits
pub past_digits : {a b c : Pen} {text : List ℕ} (rest behind : List ℕ) → behind ≡ drop 1 rest → 1 ≤ length rest → Stands a b text (digits_of false rest) → Writes b c (hex_of (slice_index rest 0)) → Stands a c text (digits_of false behind)
past_digits [] behind e some s w = absurd (none some)
  where
    none : 1 ≤ 0 → ⊥
    none h = omega arith
past_digits (byte ∷ rest) behind e some s w = past_piece _ _ _ _ _ (hex_of byte) (digits_of false behind) (ap (λ (l : List ℕ). hex_of byte ++ digits_of false l) (sym e)) s w

pub differing_none : (xs ys : List ℕ) → ys ≡ [] → differing xs ys ≡ 0
differing_none [] ys none = refl
differing_none (x ∷ xs) ys none = rw none refl

-- past the byte at an offset
pub past_byte : {a b c : Pen} {text : List ℕ} (telling : Telling) (ns : List Node) (store at : ℕ) (inside differs : Bool) (xs ys : List ℕ) → at < length xs → at < length ys → differs ≡ not (get_or xs at 0 == get_or ys at 0)
    → Stands a b text (runs_told telling ns store inside at (drop at xs) (drop at ys)) → Writes b c (word_where (differs && not inside) (run_told telling ns store at (drop at xs) (drop at ys)))
    → Stands a c text (runs_told telling ns store differs (at + 1) (drop (at + 1) xs) (drop (at + 1) ys))
past_byte {a} {b} {c} {text} telling ns store at inside differs xs ys some more is s w =
    let front = word_where (differs && not inside) (run_told telling ns store at (drop at xs) (drop at ys)) in
    let rest = runs_told telling ns store differs (at + 1) (drop (at + 1) xs) (drop (at + 1) ys) in
    past_piece a b c text _ front rest (rw (is, drop_more xs at 0 some, drop_more ys at 0 more) refl) s w

-- where no bytes are left no run is
pub none_behind : (telling : Telling) (ns : List Node) (store : ℕ) (inside : Bool) (at : ℕ) (xs ys : List ℕ) → length ys ≡ 0 → runs_told telling ns store inside at xs ys ≡ []
none_behind telling ns store inside at [] ys none = refl
none_behind telling ns store inside at (x ∷ xs) [] none = refl
none_behind telling ns store inside at (x ∷ xs) (y ∷ ys) none = absurd (omega (arith, none))

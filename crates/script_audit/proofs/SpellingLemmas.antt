-- Characters that are written one after the other.
use Rattle.std.proofs.Common.{◌≡◌, ℕ, zero, suc, ◌-◌, ◌<◌, ◌≤◌, false, List, [], ◌∷◌, drop, length, map, slice_index, take, refl, ap, ◌∙◌, arith}
use Rattle.std.specs.Prelude.{◌==◌}
use Rattle.hii_bytes.specs.Watching.{Pen, Writes}
use Rattle.hii_bytes.specs.code.Writing.{Stands}
use Rattle.hii_bytes.proofs.WritingLemmas.{past_piece}
use Rattle.audit_text.specs.Texts.{ascii_name, shown_byte}
use Rattle.audit_json.specs.declared.telling.Telling.{Telling}
use Rattle.script_audit.specs.Told.{spelled, spelled_char}
use Rattle.script_audit.proofs.ScriptLemmas.{split_front}

-- one more of the first characters, and no more of none
pub take_more : (room c : ℕ) (left rest : List ℕ) → left ≡ c ∷ rest → 0 < room → take room left ≡ c ∷ take (room - 1) rest
take_more zero c left rest e some = absurd (none some)
  where
    none : 0 < 0 → ⊥
    none h = omega arith
take_more (suc n) c left rest e some = let one : n ≡ suc n - 1 = omega arith in ap (take (suc n)) e ∙ ap (λ (k : ℕ). c ∷ take k rest) one

pub take_none : (room : ℕ) (left : List ℕ) → left ≡ [] → take room left ≡ []
take_none zero left e = refl
take_none (suc n) left e = ap (take (suc n)) e

-- a name that is not empty, byte by byte
pub name_shown : (name : List ℕ) → (length name == 0) ≡ false → ascii_name name ≡ map shown_byte name
name_shown [] e = absurd cc
name_shown (byte ∷ name) e = refl

pub past_shown : {a b c : Pen} {text : List ℕ} (telling : Telling) (rest behind : List ℕ) → behind ≡ drop 1 rest → 1 ≤ length rest → Stands a b text (spelled telling (map shown_byte rest))
    → Writes b c (spelled_char telling (shown_byte (slice_index rest 0))) → Stands a c text (spelled telling (map shown_byte behind))
past_shown telling rest behind e some s w =
    past_piece _ _ _ _ _ (spelled_char telling (shown_byte (slice_index rest 0))) (spelled telling (map shown_byte behind)) (ap (λ (l : List ℕ). spelled telling (map shown_byte l)) (split_front rest behind e some)) s w

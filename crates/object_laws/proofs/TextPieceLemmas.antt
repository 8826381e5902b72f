-- Fields, denials and reasons as they stand within texts of objects.
use Rattle.std.proofs.Common.{ℕ, ◌/◌, ◌%◌, false, List, [], ◌∷◌, ◌++◌, decimal, codes, refl, arith}
use Rattle.hii_bytes.specs.Texts.{hex_of, place_text}
use Rattle.guard_policy.specs.declared.denial.Denial.{Denial}
use Rattle.hii_values.specs.Denials.{kind_name}
use Rattle.audit_text.specs.Texts.{hex_text}
use Rattle.question_audit.specs.FormLines.{denial_text}
use Rattle.json_laws.specs.laws.Telling.{SpellsText}
use Rattle.json_laws.specs.laws.Written.{IsWord}
use Rattle.json_laws.proofs.TellingLemmas.{spells_behind, spells_word}
use Rattle.json_laws.proofs.WordLemmas.{are_bytes, bytes_word, decimal_word, hexadecimal_word, word_behind}
use Rattle.object_laws.proofs.MemberLemmas.{kind_word}

byte_word : (n : ℕ) → IsWord (hex_of (n % 256))
byte_word n = bytes_word false (n % 256 ∷ []) (are_bytes (n % 256 ∷ []) (omega arith, tt))

pub place_word : (place : ℕ) → IsWord (place_text place)
place_word place =
    let first = hex_of (place / 0x1000000 % 256) in
    let second = hex_of (place / 0x10000 % 256) in
    let third = hex_of (place / 0x100 % 256) in
    word_behind (first ++ second ++ third) (hex_of (place % 256))
    (word_behind (first ++ second) third (word_behind first second (byte_word (place / 0x1000000)) (byte_word (place / 0x10000))) (byte_word (place / 0x100))) (byte_word place)

pub denial_word : (denial : Denial) → IsWord (denial_text denial)
denial_word denial =
    word_behind (kind_name denial.kind ++ codes " at ") (place_text denial.place) (word_behind (kind_name denial.kind) (codes " at ") (kind_word denial.kind) refl) (place_word denial.place)

-- behind the name of the store in which it lies
pub field_behind : {name : List ℕ} (offset width : ℕ) → SpellsText name → SpellsText (name ++ codes ":0x" ++ hex_text offset ++ codes "(" ++ decimal width ++ codes ")")
field_behind offset width name =
    spells_behind
    (spells_behind (spells_behind (spells_behind (spells_behind name (spells_word (codes ":0x") refl)) (spells_word (hex_text offset) (hexadecimal_word offset))) (spells_word (codes "(") refl))
    (spells_word (decimal width) (decimal_word width)))
    (spells_word (codes ")") refl)

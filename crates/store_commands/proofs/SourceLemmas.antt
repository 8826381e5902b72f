-- Where the bytes of a store come from.
use Rattle.std.proofs.Common.{◌≡◌, ◌≢◌, ◌∙◌, ◌++◌, ◌∷◌, ◌+◌, ◌<◌, ◌/◌, ◌%◌, ℕ, zero, suc, Bool, true, false, cond, nat_lt, eqb, List, [], Option, Some, None, drop, get_or, length, slice_index, slice_range, take, ap, arith, codes, inl, inr, refl}
use Rattle.std.proofs.lemmas.Bool.{cases_Bool, eq-eqb, ne_eqb}
use Rattle.std.proofs.lemmas.Str.{IsAscii-append, IsUtf8-from_ascii, IsUtf8-from_is_utf8, is_utf8-from_IsUtf8}
use Rattle.std.proofs.lemmas.Str.Ascii.{IsAscii-nil}
use Rattle.std.specs.Fmt.{digit_glyph}
use Rattle.std.specs.List.{AllByRecursion, list_any}
use Rattle.std.specs.Str.{IsAscii, IsUtf8, is_utf8}
use Rattle.hii_bytes.specs.Numbers.{AreBytes}
use Rattle.ifr_opcodes.specs.Forest.{Node}
use Rattle.ifr_scopes.specs.Stores.{store_guid, store_name}
use Rattle.audit_text.specs.Texts.{digits_of, guid_text}
use Rattle.store_commands.specs.Sources.{is_slash, variable_path}

-- ---- the path of a variable's file

glyph : (digit : ℕ) → digit < 16 → digit_glyph false digit < 128
glyph digit below = go (nat_lt digit 10)
  where
    go : (t : Bool) → cond t (48 + digit) (87 + digit) < 128
    go true = omega (arith, below)
    go false = omega (arith, below)

ascii_more : (b : ℕ) (bs : List ℕ) → b < 128 → IsAscii bs → IsAscii (b ∷ bs)
ascii_more b bs here rest zero = here
ascii_more b bs here rest (suc i) = rest i

abbrev Bytes : List ℕ → Type 0
Bytes = AllByRecursion (λ b. b < 256)

digits_ascii : (bytes : List ℕ) → Bytes bytes → IsAscii (digits_of false bytes)
digits_ascii [] all = IsAscii-nil
digits_ascii (b ∷ bytes) all =
    let small = all.0 in
    ascii_more (digit_glyph false (b / 16)) (digit_glyph false (b % 16) ∷ digits_of false bytes) (glyph (b / 16) (omega (arith, small)))
    (ascii_more (digit_glyph false (b % 16)) (digits_of false bytes) (glyph (b % 16) (omega arith)) (digits_ascii bytes all.1))

all_bytes : (bytes : List ℕ) → AreBytes bytes → Bytes bytes
all_bytes [] are = tt
all_bytes (b ∷ bytes) are = (are 0, all_bytes bytes (λ k. are (suc k)))

bytes_drop : (i : ℕ) (bytes : List ℕ) → Bytes bytes → Bytes (drop i bytes)
bytes_drop zero bytes all = all
bytes_drop (suc i) [] all = tt
bytes_drop (suc i) (b ∷ bytes) all = bytes_drop i bytes all.1

bytes_take : (i : ℕ) (bytes : List ℕ) → Bytes bytes → Bytes (take i bytes)
bytes_take zero bytes all = tt
bytes_take (suc i) [] all = tt
bytes_take (suc i) (b ∷ bytes) all = (all.0, bytes_take i bytes all.1)

hyphen : IsAscii (codes "-")
hyphen = ascii_more 45 [] (omega arith) IsAscii-nil

ascii_parts : (h a b c d e : List ℕ) → IsAscii h → IsAscii a → IsAscii b → IsAscii c → IsAscii d → IsAscii e → IsAscii (a ++ h ++ b ++ h ++ c ++ h ++ d ++ h ++ e)
ascii_parts h a b c d e between first second third fourth fifth =
    let two = IsAscii-append (a ++ h) b (IsAscii-append a h first between) second in
    let three = IsAscii-append (a ++ h ++ b ++ h) c (IsAscii-append (a ++ h ++ b) h two between) third in
    let four = IsAscii-append (a ++ h ++ b ++ h ++ c ++ h) d (IsAscii-append (a ++ h ++ b ++ h ++ c) h three between) fourth in
    IsAscii-append (a ++ h ++ b ++ h ++ c ++ h ++ d ++ h) e (IsAscii-append (a ++ h ++ b ++ h ++ c ++ h ++ d) h four between) fifth

pub guid_is_text : (guid : List ℕ) → AreBytes guid → IsUtf8 (guid_text false guid)
guid_is_text guid are =
    let all = all_bytes guid are in
    let first = slice_index guid 3 ∷ slice_index guid 2 ∷ slice_index guid 1 ∷ slice_index guid 0 ∷ [] in
    let second = slice_index guid 5 ∷ slice_index guid 4 ∷ [] in
    let third = slice_index guid 7 ∷ slice_index guid 6 ∷ [] in
    IsUtf8-from_ascii (guid_text false guid)
    (ascii_parts (codes "-") (digits_of false first) (digits_of false second) (digits_of false third) (digits_of false (slice_range guid 8 10)) (digits_of false (slice_range guid 10 16)) hyphen
    (digits_ascii first (are 3, (are 2, (are 1, (are 0, tt))))) (digits_ascii second (are 5, (are 4, tt))) (digits_ascii third (are 7, (are 6, tt)))
    (digits_ascii (slice_range guid 8 10) (bytes_take 2 (drop 8 guid) (bytes_drop 8 guid all))) (digits_ascii (slice_range guid 10 16) (bytes_take 6 (drop 10 guid) (bytes_drop 10 guid all))))

no_text_is : (name : List ℕ) → (IsUtf8 name → ⊥) → is_utf8 name ≡ false
no_text_is name none = elim (cases_Bool (is_utf8 name)) [
  | inl is ↦ absurd (none (IsUtf8-from_is_utf8 name is))
  | inr isn ↦ isn
]

pub no_path : (folder : List ℕ) (n : Node) → (IsUtf8 (store_name n.op) → ⊥) → None ≡ variable_path folder n
no_path folder n none = rw (no_text_is (store_name n.op) none) refl

pub path_is : (folder : List ℕ) (n : Node) → IsUtf8 (store_name n.op) → list_any is_slash (store_name n.op) ≡ false
    → variable_path folder n ≡ Some (folder ++ codes "/" ++ store_name n.op ++ codes "-" ++ guid_text false (store_guid n.op))
path_is folder n text none = rw (is_utf8-from_IsUtf8 (store_name n.op) text, none) refl

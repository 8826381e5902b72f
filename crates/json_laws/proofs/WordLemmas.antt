-- Words, of which nothing is escaped.
use Rattle.std.proofs.Common.{◌≡◌, ◌⊎◌, ◌*◌, nat_lt, ◌==◌, ◌||◌, ◌&&◌, not, nat_le, ℤ, pos, negsuc, zero, suc, ℕ, ◌+◌, ◌/◌, ◌%◌, ◌<◌, ◌≤◌, Bool, true, false, cond, List, [], ◌∷◌, ◌++◌, take, drop, map, slice_index, slice_index_or, slice_range, decimal, codes, refl, sym, ap, ap₂, ◌∙◌, arith, inl, inr}
use Rattle.std.specs.Fmt.{digit_glyph, digits, digits_onto, signed_decimal}
use Rattle.std.specs.List.{AllByRecursion, list_all}
use Rattle.std.specs.Str.{all_scalars}
use Rattle.std.specs.Int.Digits as numbers
use Rattle.std.specs.Int.Digits.{AllBelowBase}
use Rattle.std.proofs.lemmas.Bool.{agree_below_at, and_cases, and_from, and_parts, cond_both, cond-false, le-leb, leb-false, leb-true, lt-ltb, ltb-false, not-true, or_from}
use Rattle.std.proofs.lemmas.Int.Digits.{all_below_base_digits_of}
use Rattle.std.proofs.lemmas.List.Concat.{flat_map-append}
use Rattle.std.proofs.lemmas.Str.{encode_ascii}
use lib.Utf8.{encode, low_scalar, scalar}
use Rattle.std.proofs.str.Laws.{scalars-append}
use Rattle.browser_rules.specs.Strings.{characters, shown_unit}
use Rattle.hii_bytes.specs.Numbers.{AreBytes}
use Rattle.ifr_opcodes.specs.Fields.{has_flag}
use Rattle.audit_text.specs.Texts.{digits_of, guid_text, hex_text, is_unsafe, joined}
use Rattle.audit_text.specs.Words.{attributes_text, opcode_name, opcode_names, word_where}
use Rattle.audit_json.specs.Json.{escape, escaped, json_char, json_text}
use Rattle.audit_json.specs.Objects.{quoted}
use Rattle.json_laws.specs.laws.Written.{IsWord, is_plain}

pub plain_range : (c : ℕ) → is_plain c ≡ true → (0x20 ≤ c) × (c ≤ 0x7E)
plain_range c plain =
    let three = and_parts (nat_le 0x20 c && nat_le c 0x7E && not (c == 34)) (not (c == 92)) plain in
    let two = and_parts (nat_le 0x20 c && nat_le c 0x7E) (not (c == 34)) three.0 in
    let range = and_parts (nat_le 0x20 c) (nat_le c 0x7E) two.0 in
    (leb-true 0x20 c range.0, leb-true c 0x7E range.1)

pub word_is_text : (w : List ℕ) → IsWord w → all_scalars w ≡ true
word_is_text [] plain = refl
word_is_text (c ∷ w) plain =
    let p = and_parts (is_plain c) _ plain in
    let range = plain_range c p.0 in
    and_from _ _ (low_scalar c (omega arith)) (word_is_text w p.1)

-- ---- nothing is escaped

abbrev unsafe_and_plain : ℕ → Bool
unsafe_and_plain c = is_plain c && is_unsafe c

is_safe : (c : ℕ) → is_plain c ≡ true → is_unsafe c ≡ false
is_safe c plain =
    let range = plain_range c plain in
    sym (ap (λ (b : Bool). b && is_unsafe c) plain) ∙ agree_below_at unsafe_and_plain (λ _. false) 127 c refl (omega arith)

no_mark : (c : ℕ) → is_plain c ≡ true → (c == 34 || c == 92) ≡ false
no_mark c plain =
    let three = and_parts (nat_le 0x20 c && nat_le c 0x7E && not (c == 34)) (not (c == 92)) plain in
    let two = and_parts (nat_le 0x20 c && nat_le c 0x7E) (not (c == 34)) three.0 in
    or_from _ _ (not-true _ two.1) (not-true _ three.1)

plain_char : (c : ℕ) → is_plain c ≡ true → json_char c ≡ c ∷ []
plain_char c plain =
    let range = plain_range c plain in
    cond-false (c == 34 || c == 92) (codes "\\" ++ encode c) (cond (is_unsafe c) (escape c) (encode c)) (no_mark c plain)
    ∙ cond-false (is_unsafe c) (escape c) (encode c) (is_safe c plain) ∙ encode_ascii c (omega arith)

-- of a word nothing is escaped
pub word_escaped : (w : List ℕ) → IsWord w → escaped w ≡ w
word_escaped [] plain = refl
word_escaped (c ∷ w) plain =
    let p = and_parts (is_plain c) (list_all is_plain w) plain in
    ap₂ (λ (x y : List ℕ). x ++ y) (plain_char c p.0) (word_escaped w p.1)

pub escaped_behind : (one other : List ℕ) → escaped (one ++ other) ≡ escaped one ++ escaped other
escaped_behind one other = flat_map-append json_char one other

pub word_is_quoted : (w : List ℕ) → IsWord w → quoted w ≡ json_text w
word_is_quoted w plain = ap quoted (sym (word_escaped w plain))

pub text_between : (one characters other : List ℕ) → IsWord one → IsWord other → quoted (one ++ escaped characters ++ other) ≡ json_text (one ++ characters ++ other)
text_between one characters other plain too =
    let same : escaped (one ++ characters ++ other) ≡ one ++ escaped characters ++ other =
    escaped_behind (one ++ characters) other
    ∙ ap₂ (λ (l m : List ℕ). l ++ m) (escaped_behind one characters ∙ ap (λ (l : List ℕ). l ++ escaped characters) (word_escaped one plain)) (word_escaped other too) in
    ap quoted (sym same)

-- ---- which texts are words

pub word_behind : (w other : List ℕ) → IsWord w → IsWord other → IsWord (w ++ other)
word_behind [] other plain too = too
word_behind (c ∷ w) other plain too =
    let p = and_parts (is_plain c) (list_all is_plain w) plain in
    and_from _ _ p.0 (word_behind w other p.1 too)

pub plain_glyph : (upper : Bool) (d : ℕ) → d < 16 → is_plain (digit_glyph upper d) ≡ true
plain_glyph true d h = agree_below_at (λ d. is_plain (digit_glyph true d)) (λ _. true) 16 d refl h
plain_glyph false d h = agree_below_at (λ d. is_plain (digit_glyph false d)) (λ _. true) 16 d refl h

onto_word : (count n : ℕ) (behind : List ℕ) → IsWord behind → IsWord (digits_onto count 10 false n behind)
onto_word zero n behind plain = plain
onto_word (suc count) n behind plain =
    let d = n % 10 in
    let next : IsWord (digit_glyph false d ∷ behind) = and_from _ _ (plain_glyph false d (omega arith)) plain in
    cond_both (n / 10 == 0) (digit_glyph false d ∷ behind) (digits_onto count 10 false (n / 10) (digit_glyph false d ∷ behind)) IsWord (λ _. next) (λ _. onto_word count (n / 10) (digit_glyph false d ∷ behind) next)

pub decimal_word : (n : ℕ) → IsWord (decimal n)
unfolding digits
decimal_word n = onto_word 64 n [] refl

pub signed_word : (z : ℤ) → IsWord (signed_decimal z)
signed_word (pos n) = decimal_word n
signed_word (negsuc n) = decimal_word (suc n)

abbrev pub Bytes : List ℕ → Type 0
Bytes bytes = AllByRecursion (λ b. b < 256) bytes

pub all_bytes : (bytes : List ℕ) → AreBytes bytes → Bytes bytes
all_bytes [] are = tt
all_bytes (b ∷ bytes) are = (are 0, all_bytes bytes (λ k. are (suc k)))

pub bytes_drop : (i : ℕ) (bytes : List ℕ) → Bytes bytes → Bytes (drop i bytes)
bytes_drop zero bytes all = all
bytes_drop (suc i) [] all = tt
bytes_drop (suc i) (b ∷ bytes) all = bytes_drop i bytes all.1

pub bytes_take : (i : ℕ) (bytes : List ℕ) → Bytes bytes → Bytes (take i bytes)
bytes_take zero bytes all = tt
bytes_take (suc i) [] all = tt
bytes_take (suc i) (b ∷ bytes) all = (all.0, bytes_take i bytes all.1)

hex_word : (upper : Bool) (bytes : List ℕ) → Bytes bytes → IsWord (digits_of upper bytes)
hex_word upper [] all = refl
hex_word upper (b ∷ bytes) all =
    let small : b < 256 = all.0 in
    and_from _ _ (plain_glyph upper (b / 16) (omega arith)) (and_from _ _ (plain_glyph upper (b % 16) (omega arith)) (hex_word upper bytes all.1))

pub bytes_word : (upper : Bool) (bytes : List ℕ) → AreBytes bytes → IsWord (digits_of upper bytes)
bytes_word upper bytes are = hex_word upper bytes (all_bytes bytes are)

pub guid_word : (upper : Bool) (guid : List ℕ) → AreBytes guid → IsWord (guid_text upper guid)
guid_word upper guid are =
    let all = all_bytes guid are in
    let first = slice_index guid 3 ∷ slice_index guid 2 ∷ slice_index guid 1 ∷ slice_index guid 0 ∷ [] in
    let second = slice_index guid 5 ∷ slice_index guid 4 ∷ [] in
    let third = slice_index guid 7 ∷ slice_index guid 6 ∷ [] in
    let hyphen : IsWord (codes "-") = refl in
    let two = word_behind (digits_of upper first ++ codes "-") (digits_of upper second) (word_behind (digits_of upper first) (codes "-") (hex_word upper first (are 3, (are 2, (are 1, (are 0, tt))))) hyphen)
    (hex_word upper second (are 5, (are 4, tt))) in
    let three = word_behind (digits_of upper first ++ codes "-" ++ digits_of upper second ++ codes "-") (digits_of upper third)
    (word_behind (digits_of upper first ++ codes "-" ++ digits_of upper second) (codes "-") two hyphen) (hex_word upper third (are 7, (are 6, tt))) in
    let four = word_behind (digits_of upper first ++ codes "-" ++ digits_of upper second ++ codes "-" ++ digits_of upper third ++ codes "-") (digits_of upper (slice_range guid 8 10))
    (word_behind (digits_of upper first ++ codes "-" ++ digits_of upper second ++ codes "-" ++ digits_of upper third) (codes "-") three hyphen)
    (hex_word upper (slice_range guid 8 10) (bytes_take 2 (drop 8 guid) (bytes_drop 8 guid all))) in
    word_behind (digits_of upper first ++ codes "-" ++ digits_of upper second ++ codes "-" ++ digits_of upper third ++ codes "-" ++ digits_of upper (slice_range guid 8 10) ++ codes "-")
    (digits_of upper (slice_range guid 10 16))
    (word_behind (digits_of upper first ++ codes "-" ++ digits_of upper second ++ codes "-" ++ digits_of upper third ++ codes "-" ++ digits_of upper (slice_range guid 8 10)) (codes "-") four hyphen)
    (hex_word upper (slice_range guid 10 16) (bytes_take 6 (drop 10 guid) (bytes_drop 10 guid all)))

below_word : (ds : List ℕ) → AllBelowBase 16 ds → IsWord (map (digit_glyph false) ds)
below_word [] all = refl
below_word (d ∷ ds) all = and_from _ _ (plain_glyph false d all.0) (below_word ds all.1)

pub hexadecimal_word : (n : ℕ) → IsWord (hex_text n)
hexadecimal_word n = by_zero (n == 0)
  where
    by_zero : (b : Bool) → IsWord (cond b (codes "0") (map (digit_glyph false) (numbers.digits_of 16 n)))
    by_zero true = refl
    by_zero false = below_word (numbers.digits_of 16 n) (all_below_base_digits_of 16 n (omega arith))

-- ---- words of tables

abbrev are_words : List (List ℕ) → Bool
are_words words = list_all (λ w. list_all is_plain w) words

word_at : (words : List (List ℕ)) (n : ℕ) → are_words words ≡ true → IsWord (slice_index_or words n [])
word_at [] n all = refl
word_at (w ∷ words) zero all = (and_parts (list_all is_plain w) (are_words words) all).0
word_at (w ∷ words) (suc n) all = word_at words n (and_parts (list_all is_plain w) (are_words words) all).1

pub opcode_word : (code : ℕ) → IsWord (opcode_name code)
opcode_word code = word_at opcode_names code refl

flags_word : (a b c : Bool) → IsWord (joined (codes "+") (word_where a (codes "NV") ++ word_where b (codes "BS") ++ word_where c (codes "RT")))
flags_word true true true = refl
flags_word true true false = refl
flags_word true false true = refl
flags_word true false false = refl
flags_word false true true = refl
flags_word false true false = refl
flags_word false false true = refl
flags_word false false false = refl

pub attributes_word : (attributes : ℕ) → IsWord (attributes_text attributes)
attributes_word attributes = flags_word (has_flag attributes 0x01) (has_flag attributes 0x02) (has_flag attributes 0x04)

-- ---- which texts are characters

pub bytes_are_text : (bytes : List ℕ) → AreBytes bytes → all_scalars bytes ≡ true
bytes_are_text [] are = refl
bytes_are_text (b ∷ bytes) are = and_from _ _ (low_scalar b (let small = are 0 in omega arith)) (bytes_are_text bytes (λ k. are (suc k)))

unit_scalar : (unit : ℕ) → unit < 65536 → (nat_le 0xd800 unit && nat_lt unit 0xe000) ≡ false → scalar unit ≡ true
unit_scalar unit small other = by_side (and_cases (nat_le 0xd800 unit) (nat_lt unit 0xe000) other)
  where
    by_side : (nat_le 0xd800 unit ≡ false) ⊎ (nat_lt unit 0xe000 ≡ false) → scalar unit ≡ true
    by_side (inl below) = low_scalar unit (leb-false 0xd800 unit below)
    by_side (inr above) =
        let high : 0xe000 ≤ unit = ltb-false unit 0xe000 above in
        cond_both (nat_lt unit 0xd800) true (nat_le 0xe000 unit && nat_lt unit 0x110000) (λ b. b ≡ true) (λ _. refl)
        (λ _. and_from _ _ (le-leb 0xe000 unit high) (lt-ltb unit 0x110000 (omega arith)))

abbrev Scalars : List ℕ → Type 0
Scalars l = all_scalars l ≡ true

unit_is_text : (unit : ℕ) → unit < 65536 → Scalars (shown_unit unit)
unit_is_text unit small =
    cond_both (nat_lt unit 0x20 || nat_le 0x7f unit && nat_lt unit 0xa0) (0x20 ∷ [])
    (cond (nat_le 0xd800 unit && nat_lt unit 0xe000) (0xfffd ∷ []) (cond (nat_le 0xfff0 unit && nat_lt unit 0xfff3) [] (unit ∷ []))) Scalars (λ _. refl) (λ _.
    cond_both (nat_le 0xd800 unit && nat_lt unit 0xe000) (0xfffd ∷ []) (cond (nat_le 0xfff0 unit && nat_lt unit 0xfff3) [] (unit ∷ [])) Scalars (λ _. refl) (λ other.
    cond_both (nat_le 0xfff0 unit && nat_lt unit 0xfff3) [] (unit ∷ []) Scalars (λ _. refl) (λ _. and_from _ _ (unit_scalar unit small other) refl)))

pub shown_are_text : (units : List ℕ) → Bytes units → all_scalars (characters units) ≡ true
unfolding characters
shown_are_text [] all = refl
shown_are_text (low ∷ []) all = refl
shown_are_text (low ∷ high ∷ units) all =
    let one : low < 256 = all.0 in
    let other : high < 256 = all.1.0 in
    scalars-append (shown_unit (low + 256 * high)) (characters units) (unit_is_text (low + 256 * high) (omega arith)) (shown_are_text units all.1.1)

pub units_are_text : (units : List ℕ) → AreBytes units → all_scalars (characters units) ≡ true
units_are_text units are = shown_are_text units (all_bytes units are)

pub are_bytes : (bytes : List ℕ) → Bytes bytes → AreBytes bytes
are_bytes [] all k = omega arith
are_bytes (b ∷ bytes) all zero = all.0
are_bytes (b ∷ bytes) all (suc k) = are_bytes bytes all.1 k

-- Characters of strings, as they are spelled and read.
use Rattle.std.proofs.Common.{◌≡◌, ◌⊎◌, Option, ◌==◌, ◌&&◌, ◌||◌, ℕ, zero, suc, ◌+◌, ◌-◌, ◌*◌, ◌/◌, ◌%◌, ◌<◌, ◌≤◌, nat_lt, nat_le, Bool, true, false, cond, List, [], ◌∷◌, ◌++◌, length, get_or, Some, None, refl, sym, ap, subst, ◌∙◌, arith, append_assoc, length-append, inl, inr, option_map}
use Rattle.std.specs.Char.{digit_value, is_digit, IsScalar}
use Rattle.std.specs.Char.Utf16.{lone_unit_char, utf16_chars}
use Rattle.std.specs.Fmt.{digit_glyph}
use Rattle.std.specs.List.{flat_map}
use Rattle.std.specs.Str.{all_scalars}
use Rattle.std.specs.Str.Parse.{digits_value}
use Rattle.std.proofs.lemmas.Bool.{and_cases, and_from, and_left, and_parts, and_right, lt-leb, cases_lt, eqb-true, le-leb, le-ltb, lt-ltb, ltb-false, ltb-true, leb-false, not_from_false, or_cases, or_parts}
use Rattle.std.proofs.lemmas.Bool.Decides.{nat_tests}
use Rattle.std.proofs.lemmas.Str.{utf16_chars_lone, utf16_chars_pair, utf16_chars-nil}
use Rattle.std.proofs.str.Utf16.{IsPair}
use lib.Utf8.{scalar, scalar_cases}
use Rattle.audit_text.specs.Texts.{is_unsafe}
use Rattle.audit_json.specs.Json.{unit_escape}
use Rattle.json_laws.specs.Reading.{char, collected, each_spelled, either, four_digits, in_front, letter, repeated, string_in, bind, escaped, spelling, with_character, word}

-- ---- escapes

glyph_value : (d : ℕ) → d < 16 → digit_value (digit_glyph false d) ≡ d
glyph_value d h = elim (cases_lt d 10) [
  | inl less ↦ rw (lt-ltb d 10 less) (grind (arith, nat_tests))
  | inr more ↦ rw (le-ltb d 10 more) (grind (arith, nat_tests))
]

is_glyph : (d : ℕ) → d < 16 → is_digit (digit_glyph false d) 16 ≡ true
is_glyph d h = lt-ltb (digit_value (digit_glyph false d)) 16 (omega (arith, h, glyph_value d h))

-- four digits that are hexadecimal
four_read : (w x y z : ℕ) (t : List ℕ) → is_digit w 16 ≡ true → is_digit x 16 ≡ true → is_digit y 16 ≡ true → is_digit z 16 ≡ true
    → four_digits (w ∷ x ∷ y ∷ z ∷ t) ≡ Some (digits_value 16 (w ∷ x ∷ y ∷ z ∷ []), t)
four_read w x y z t hw hx hy hz =
    ap (λ (b : Bool). cond b (Some (digits_value 16 (w ∷ x ∷ y ∷ z ∷ []), t)) None)
    (and_from _ _ hw (and_from _ _ hx (and_from _ _ hy (and_from _ _ hz refl))))

four_value : (w x y z a b c d : ℕ) → digit_value w ≡ a → digit_value x ≡ b → digit_value y ≡ c → digit_value z ≡ d
    → digits_value 16 (w ∷ x ∷ y ∷ z ∷ []) ≡ ((a * 16 + b) * 16 + c) * 16 + d
four_value w x y z a b c d ea eb ec ed =
    let whole : digits_value 16 (w ∷ x ∷ y ∷ z ∷ []) ≡ (((0 * 16 + digit_value w) * 16 + digit_value x) * 16 + digit_value y) * 16 + digit_value z = refl in
    omega arith

four : (a b c d v : ℕ) (t : List ℕ) → a < 16 → b < 16 → c < 16 → d < 16 → ((a * 16 + b) * 16 + c) * 16 + d ≡ v
    → four_digits (digit_glyph false a ∷ digit_glyph false b ∷ digit_glyph false c ∷ digit_glyph false d ∷ t) ≡ Some (v, t)
four a b c d v t ha hb hc hd e =
    four_read (digit_glyph false a) (digit_glyph false b) (digit_glyph false c) (digit_glyph false d) t (is_glyph a ha) (is_glyph b hb) (is_glyph c hc) (is_glyph d hd)
    ∙ ap (λ (n : ℕ). Some (n, t))
    (four_value (digit_glyph false a) (digit_glyph false b) (digit_glyph false c) (digit_glyph false d) a b c d (glyph_value a ha) (glyph_value b hb) (glyph_value c hc) (glyph_value d hd) ∙ e)

read_escape : (u : ℕ) (t : List ℕ) → u < 0x10000 → char (unit_escape u ++ t) ≡ Some (u, t)
read_escape u t h =
    ap (λ o. either o letter (117 ∷ digit_glyph false (u / 256 / 16) ∷ digit_glyph false (u / 256 % 16) ∷ digit_glyph false (u % 256 / 16) ∷ digit_glyph false (u % 256 % 16) ∷ t))
    (four (u / 256 / 16) (u / 256 % 16) (u % 256 / 16) (u % 256 % 16) u t (omega (arith, h)) (omega arith) (omega arith) (omega arith) (omega arith))

-- ---- characters

-- a character of a string, by what is known of it: that it is a quotation mark or a backslash, unsafe, and one unit of UTF-16
abbrev pub spelled_by : Bool → Bool → Bool → ℕ → List ℕ
spelled_by true unsafe small c = 92 ∷ c ∷ []
spelled_by false true true c = unit_escape c
spelled_by false true false c = unit_escape (0xD800 + (c - 0x10000) / 0x400) ++ unit_escape (0xDC00 + (c - 0x10000) % 0x400)
spelled_by false false small c = c ∷ []

abbrev pub spelled_char : ℕ → List ℕ
spelled_char c = spelled_by (c == 34 || c == 92) (is_unsafe c) (nat_lt c 0x10000) c

-- the units that it is read as
abbrev units_by : Bool → Bool → Bool → ℕ → List ℕ
units_by true unsafe small c = c ∷ []
units_by false true true c = c ∷ []
units_by false true false c = (0xD800 + (c - 0x10000) / 0x400) ∷ (0xDC00 + (c - 0x10000) % 0x400) ∷ []
units_by false false small c = c ∷ []

abbrev units_of : ℕ → List ℕ
units_of c = units_by (c == 34 || c == 92) (is_unsafe c) (nat_lt c 0x10000) c

-- as many as stand there
abbrev all_chars : ℕ → List ℕ → List ℕ × List ℕ
all_chars count l = repeated [] (λ unit units. unit ∷ units) char count l

read_first : (count : ℕ) (l t : List ℕ) (u : ℕ) → char l ≡ Some (u, t) → all_chars (suc count) l ≡ in_front (λ us. u ∷ us) (all_chars count t)
unfolding repeated
read_first count l t u e = ap (collected [] (λ unit units. unit ∷ units) l (all_chars count)) e

read_none : (count : ℕ) (l : List ℕ) → char l ≡ None → all_chars count l ≡ ([], l)
unfolding repeated
read_none zero l e = refl
read_none (suc count) l e = ap (collected [] (λ unit units. unit ∷ units) l (all_chars count)) e

-- with what is behind it read so
abbrev Behind : ℕ → ℕ → List ℕ → List ℕ → List ℕ → Type 0
Behind count size t us rest = (k : ℕ) → count ≤ k + size → all_chars k t ≡ (us, rest)

read_one : (count : ℕ) (l t us rest : List ℕ) (u size : ℕ) → 0 < size → size ≤ count → char l ≡ Some (u, t) → Behind count size t us rest
    → all_chars count l ≡ (u ∷ us, rest)
read_one zero l t us rest u size some enough e behind = absurd (omega arith)
read_one (suc count) l t us rest u size some enough e behind =
    read_first count l t u e ∙ ap (in_front (λ us. u ∷ us)) (behind count (omega arith))

read_two : (count : ℕ) (l m t us rest : List ℕ) (u v size : ℕ) → 1 < size → size ≤ count → char l ≡ Some (u, m) → char m ≡ Some (v, t)
    → Behind count size t us rest → all_chars count l ≡ (u ∷ v ∷ us, rest)
read_two zero l m t us rest u v size some enough e f behind = absurd (omega arith)
read_two (suc zero) l m t us rest u v size some enough e f behind = absurd (omega arith)
read_two (suc (suc count)) l m t us rest u v size some enough e f behind =
    read_first (suc count) l m u e ∙ ap (in_front (λ us. u ∷ us)) (read_first count m t v f)
    ∙ ap (λ p. in_front (λ us. u ∷ us) (in_front (λ us. v ∷ us) p)) (behind count (omega arith))

-- an escape of a letter
read_mark : (c : ℕ) (t : List ℕ) → (c ≡ 34) ⊎ (c ≡ 92) → char (92 ∷ c ∷ t) ≡ Some (c, t)
read_mark c t (inl e) = subst (λ (x : ℕ). char (92 ∷ x ∷ t) ≡ Some (x, t)) (sym e) refl
read_mark c t (inr e) = subst (λ (x : ℕ). char (92 ∷ x ∷ t) ≡ Some (x, t)) (sym e) refl

-- a character as it is
read_plain : (c : ℕ) (t : List ℕ) → 0x20 ≤ c → (c == 34 || c == 92) ≡ false → char (c ∷ t) ≡ Some (c, t)
read_plain c t high other =
    ap (λ (b : Bool). either (cond b (Some (c, t)) None) escaped (c ∷ t)) (and_from _ _ (le-leb 0x20 c high) (not_from_false _ other))

low_is_unsafe : (c : ℕ) → nat_le 0 c ≡ false ⊎ nat_le c 0x1F ≡ false → 0x20 ≤ c
low_is_unsafe c (inl e) = absurd (omega (arith, leb-false 0 c e))
low_is_unsafe c (inr e) = omega (arith, leb-false c 0x1F e)

safe_high : (c : ℕ) → is_unsafe c ≡ false → 0x20 ≤ c
safe_high c safe = low_is_unsafe c (and_cases _ _ (or_parts (nat_le 0 c && nat_le c 0x1F) _ safe).0)

pub scalar_bound : (c : ℕ) → IsScalar c → c < 0x110000
scalar_bound c e = in_range (scalar_cases c e)
  where
    in_range : (c < 0xD800) ⊎ ((0xE000 ≤ c) × (c < 0x110000)) → c < 0x110000
    in_range (inl low) = omega arith
    in_range (inr high) = high.1

pub read_char : (c count : ℕ) (t us rest : List ℕ) (special unsafe small : Bool) → IsScalar c → (c == 34 || c == 92) ≡ special → is_unsafe c ≡ unsafe → nat_lt c 0x10000 ≡ small
    → length (spelled_by special unsafe small c) ≤ count → Behind count (length (spelled_by special unsafe small c)) t us rest
    → all_chars count (spelled_by special unsafe small c ++ t) ≡ (units_by special unsafe small c ++ us, rest)
read_char c count t us rest true unsafe small scalar mark _ _ enough behind =
    read_one count (92 ∷ c ∷ t) t us rest c 2 (omega arith) enough (read_mark c t (marks (or_cases _ _ mark))) behind
  where
    marks : ((c == 34) ≡ true) ⊎ ((c == 92) ≡ true) → (c ≡ 34) ⊎ (c ≡ 92)
    marks (inl e) = inl (eqb-true c 34 e)
    marks (inr e) = inr (eqb-true c 92 e)
read_char c count t us rest false true true scalar _ _ small enough behind =
    read_one count (unit_escape c ++ t) t us rest c 6 (omega arith) enough (read_escape c t (ltb-true c 0x10000 small)) behind
read_char c count t us rest false true false scalar _ _ large enough behind =
    let high = 0xD800 + (c - 0x10000) / 0x400 in
    let low = 0xDC00 + (c - 0x10000) % 0x400 in
    let bound : c < 0x110000 = scalar_bound c scalar in
    read_two count (unit_escape high ++ (unit_escape low ++ t)) (unit_escape low ++ t) t us rest high low 12 (omega arith) enough
    (read_escape high (unit_escape low ++ t) (omega arith)) (read_escape low t (omega arith)) behind
read_char c count t us rest false false small scalar other safe _ enough behind =
    read_one count (c ∷ t) t us rest c 1 (omega arith) enough (read_plain c t (safe_high c safe) other) behind

-- ---- texts

abbrev pub spelled_chars : List ℕ → List ℕ
spelled_chars characters = flat_map spelled_char characters

read_chars : (characters : List ℕ) (count : ℕ) (t : List ℕ) → all_scalars characters ≡ true → char t ≡ None → length (spelled_chars characters) ≤ count
    → all_chars count (spelled_chars characters ++ t) ≡ (flat_map units_of characters, t)
read_chars [] count t scalars none enough = read_none count t none
read_chars (c ∷ characters) count t scalars none enough =
    let s = and_parts (scalar c) (all_scalars characters) scalars in
    let whole : length (spelled_chars (c ∷ characters)) ≡ length (spelled_char c) + length (spelled_chars characters) = length-append (spelled_char c) (spelled_chars characters) in
    ap (all_chars count) (append_assoc (spelled_char c) (spelled_chars characters) t)
    ∙ read_char c count (spelled_chars characters ++ t) (flat_map units_of characters) t (c == 34 || c == 92) (is_unsafe c) (nat_lt c 0x10000) s.0 refl refl refl
    (omega arith) (λ k left. read_chars characters k t s.1 none (omega arith))

lone : (c : ℕ) → IsScalar c → lone_unit_char c ≡ Some c
lone c e = in_range (scalar_cases c e)
  where
    in_range : (c < 0xD800) ⊎ ((0xE000 ≤ c) × (c < 0x110000)) → lone_unit_char c ≡ Some c
    in_range (inl low) = ap (λ (b : Bool). cond b None (Some c)) (and_left (nat_le 0xD800 c) (nat_lt c 0xE000) (lt-leb 0xD800 c low))
    in_range (inr high) = ap (λ (b : Bool). cond b None (Some c)) (and_right (nat_le 0xD800 c) (nat_lt c 0xE000) (le-ltb c 0xE000 high.0))

no_high : (c v : ℕ) → IsScalar c → ¬ (IsPair c v)
no_high c v e pair = in_range (scalar_cases c e)
  where
    in_range : (c < 0xD800) ⊎ ((0xE000 ≤ c) × (c < 0x110000)) → ⊥
    in_range (inl low) = omega arith
    in_range (inr high) = omega arith

alone : (c : ℕ) (us : List ℕ) → IsScalar c → utf16_chars (c ∷ us) ≡ Some c ∷ utf16_chars us
alone c us e = utf16_chars_lone c us (no_high c (get_or us 0 0) e) ∙ ap (λ o. o ∷ utf16_chars us) (lone c e)

paired : (special unsafe small : Bool) (c : ℕ) (us : List ℕ) → IsScalar c → nat_lt c 0x10000 ≡ small
    → utf16_chars (units_by special unsafe small c ++ us) ≡ Some c ∷ utf16_chars us
paired true unsafe small c us e _ = alone c us e
paired false true true c us e _ = alone c us e
paired false true false c us e large =
    let high = 0xD800 + (c - 0x10000) / 0x400 in
    let low = 0xDC00 + (c - 0x10000) % 0x400 in
    let bound : c < 0x110000 = scalar_bound c e in
    let least : 0x10000 ≤ c = ltb-false c 0x10000 large in
    utf16_chars_pair high low us (omega arith) ∙ ap (λ (n : ℕ). Some n ∷ utf16_chars us) (omega arith)
paired false false small c us e _ = alone c us e

all_paired : (characters : List ℕ) → all_scalars characters ≡ true → each_spelled (utf16_chars (flat_map units_of characters)) ≡ Some characters
all_paired [] scalars = ap each_spelled utf16_chars-nil
all_paired (c ∷ characters) scalars =
    let s = and_parts (scalar c) (all_scalars characters) scalars in
    ap each_spelled (paired (c == 34 || c == 92) (is_unsafe c) (nat_lt c 0x10000) c (flat_map units_of characters) s.0 refl)
    ∙ ap (with_character (Some c)) (all_paired characters s.1)

-- a text behind its quotation mark, up to the other one
pub read_string : (characters t : List ℕ) → all_scalars characters ≡ true → string_in (34 ∷ (spelled_chars characters ++ 34 ∷ t)) ≡ Some (characters, t)
read_string characters t scalars =
    let behind = spelled_chars characters ++ 34 ∷ t in
    let long : length behind ≡ length (spelled_chars characters) + length (34 ∷ t) = length-append (spelled_chars characters) (34 ∷ t) in
    ap (λ (p : List ℕ × List ℕ). bind (word "\"" p.1) λ _. spelling p.0) (read_chars characters (length behind) (34 ∷ t) scalars refl (omega arith))
    ∙ ap (λ (o : Option (List ℕ)). option_map (λ cs. (cs, t)) o) (all_paired characters scalars)

-- What stands of a text in a page is plain.
use Rattle.std.proofs.Common.{◌≡◌, ℕ, zero, suc, ◌+◌, ◌/◌, ◌%◌, ◌<◌, ◌≤◌, Bool, true, false, List, [], ◌∷◌, ◌++◌, codes, map, refl, arith, inl, inr}
use Rattle.std.specs.Prelude.{◌&&◌, ◌==◌}
use Rattle.std.specs.Char.{encode_utf8}
use Rattle.std.specs.Fmt.{digit_glyph}
use Rattle.std.specs.Int.Digits as numbers
use Rattle.std.specs.List.{flat_map}
use Rattle.std.proofs.lemmas.Bool.{and_from, and_parts, cases_Bool, cases_eq, cases_lt, le-ltb, lt-ltb}
use Rattle.std.proofs.lemmas.Bool.Decides.{nat_tests}
use Rattle.audit_text.specs.Texts.{hex_text, is_unsafe, safe_char}
use Rattle.audit_html.specs.Html.{html_char, html_text}
use Rattle.question_rows.specs.Elements.{html_byte, html_line}
use Rattle.question_rows.specs.laws.Plain.{are_plain, is_plain}

both_plain : (xs ys : List ℕ) → are_plain xs ≡ true → are_plain ys ≡ true → are_plain (xs ++ ys) ≡ true
both_plain [] ys e f = f
both_plain (x ∷ xs) ys e f = let p = and_parts _ _ e in and_from _ _ p.0 (both_plain xs ys p.1 f)

all_plain : (f : ℕ → List ℕ) → ((x : ℕ) → are_plain (f x) ≡ true) → (xs : List ℕ) → are_plain (flat_map f xs) ≡ true
all_plain f e [] = refl
all_plain f e (x ∷ xs) = both_plain (f x) (flat_map f xs) (e x) (all_plain f e xs)

-- ---- characters of ASCII, one by one

chars_below : ℕ → Bool
chars_below zero = true
chars_below (suc n) = are_plain (html_char n) && chars_below n

all_below : chars_below 128 ≡ true
unfolding encode_utf8 chars_below
all_below = refl

char_below : (n : ℕ) → chars_below n ≡ true → (c : ℕ) → c < n → are_plain (html_char c) ≡ true
unfolding chars_below
char_below zero e c h = absurd (no h)
  where
    no : c < 0 → ⊥
    no h = omega arith
char_below (suc n) e c h =
    let p : (are_plain (html_char n) ≡ true) × (chars_below n ≡ true) = and_parts (are_plain (html_char n)) (chars_below n) e in
    elim (cases_eq c n) [ inl same ↦ rw same p.0 | inr other ↦ char_below n p.1 c (omega arith) ]

-- ---- others

high_plain : (b : ℕ) → 128 ≤ b → is_plain b ≡ true
high_plain b h = grind (arith, nat_tests)

glyph_plain : (d : ℕ) → is_plain (digit_glyph false d) ≡ true
glyph_plain d = elim (cases_lt d 10) [
  | inl less ↦ rw (lt-ltb d 10 less) (grind (arith, nat_tests))
  | inr more ↦ rw (le-ltb d 10 more) (grind (arith, nat_tests))
]

glyphs_plain : (ds : List ℕ) → are_plain (map (digit_glyph false) ds) ≡ true
glyphs_plain [] = refl
glyphs_plain (d ∷ ds) = and_from _ _ (glyph_plain d) (glyphs_plain ds)

hex_plain : (n : ℕ) → are_plain (hex_text n) ≡ true
hex_plain n = elim (cases_Bool (n == 0)) [
  | inl is ↦ rw is refl
  | inr other ↦ rw other (glyphs_plain (numbers.digits_of 16 n))
]

bytes_plain : (a : ℕ) (bs : List ℕ) → 128 ≤ a → are_plain bs ≡ true → are_plain (a ∷ bs) ≡ true
bytes_plain a bs h e = and_from _ _ (high_plain a h) e

abbrev next : ℕ → ℕ
next bits = 128 + bits % 64

next_plain : (bits : ℕ) (bs : List ℕ) → are_plain bs ≡ true → are_plain (next bits ∷ bs) ≡ true
next_plain bits bs e = bytes_plain (next bits) bs (omega arith) e

encoded_plain : (c : ℕ) → 128 ≤ c → are_plain (encode_utf8 c) ≡ true
unfolding encode_utf8
encoded_plain c h =
    let one : are_plain (next c ∷ []) ≡ true = next_plain c [] refl in
    let two : are_plain (next (c / 64) ∷ next c ∷ []) ≡ true = next_plain (c / 64) (next c ∷ []) one in
    let three : are_plain (next (c / 4096) ∷ next (c / 64) ∷ next c ∷ []) ≡ true = next_plain (c / 4096) (next (c / 64) ∷ next c ∷ []) two in
    rw (le-ltb c 128 h) (elim (cases_lt c 2048) [
      | inl few ↦ rw (lt-ltb c 2048 few) (bytes_plain (192 + c / 64) (next c ∷ []) (omega arith) one)
      | inr more ↦ rw (le-ltb c 2048 more) (elim (cases_lt c 65536) [
        | inl some ↦ rw (lt-ltb c 65536 some) (bytes_plain (224 + c / 4096) (next (c / 64) ∷ next c ∷ []) (omega arith) two)
        | inr most ↦ rw (le-ltb c 65536 most) (bytes_plain (240 + c / 262144) (next (c / 4096) ∷ next (c / 64) ∷ next c ∷ []) (omega arith) three)
      ])
    ])

safe_plain : (c : ℕ) → 128 ≤ c → are_plain (safe_char c) ≡ true
safe_plain c h = elim (cases_Bool (is_unsafe c)) [
  | inl is ↦ rw is (both_plain (codes "\\u{" ++ hex_text c) (codes "}") (both_plain (codes "\\u{") (hex_text c) refl (hex_plain c)) refl)
  | inr other ↦ rw other (encoded_plain c h)
]

not_at : (k c : ℕ) → k < 128 → 128 ≤ c → (c == k) ≡ false
not_at k c low high = grind (arith, nat_tests)

high_char : (c : ℕ) → 128 ≤ c → are_plain (html_char c) ≡ true
high_char c h = rw (not_at 38 c (omega arith) h, not_at 60 c (omega arith) h, not_at 62 c (omega arith) h, not_at 34 c (omega arith) h, not_at 39 c (omega arith) h) (safe_plain c h)

pub char_plain : (c : ℕ) → are_plain (html_char c) ≡ true
char_plain c = elim (cases_lt c 128) [ inl low ↦ char_below 128 all_below c low | inr high ↦ high_char c high ]

pub text_plain : (text : List ℕ) → are_plain (html_text text) ≡ true
text_plain text = all_plain html_char char_plain text

byte_plain : (b : ℕ) → are_plain (html_byte b) ≡ true
byte_plain b = elim (cases_lt b 128) [
  | inl low ↦ rw (lt-ltb b 128 low) (char_plain b)
  | inr high ↦ rw (le-ltb b 128 high) (and_from _ _ (high_plain b high) refl)
]

pub line_plain : (line : List ℕ) → are_plain (html_line line) ≡ true
line_plain line = all_plain html_byte byte_plain line

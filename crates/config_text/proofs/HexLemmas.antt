-- Hex digits as the crate `hex` reads and writes them.
use Rattle.std.proofs.Common.{◌≡◌, ℕ, ◌+◌, ◌*◌, ◌/◌, ◌%◌, ◌<◌, false, List, [], ◌∷◌, length, replicate, ◌-◌, ◌≤◌, slice_index, Some, Result, Ok, Err, MatchResult, refl, sym, ap, subst, ◌∙◌, arith, inl, inr}
use Rattle.std.specs.Char.{digit_value}
use Rattle.std.specs.Fmt.{digit_glyph}
use Rattle.std.specs.Str.Parse.{AllDigits, digits_value}
use Rattle.std.proofs.lemmas.Bool.{cases_lt, lt-ltb, le-ltb}
use Rattle.std.proofs.lemmas.Bool.Decides.{nat_tests}
use borrow.Rule.Slice.PartMut.{put_mid}
use Rattle.hex.specs.Hex.{decode_pairs, decode_sized, digit_or_error, encode_lower, encode_with, hex_digit_value, lower_digits, pair_value, value_at}
use Rattle.hex.specs.declared.error.FromHexError.{FromHexError}
use Rattle.hex.proofs.Pairs.{cons_byte, decode_pairs-ok_pair}
use Rattle.hii_bytes.specs.Texts.{hex_of}
use Rattle.config_text.specs.code.Written.{four_digits}

-- ---- read

digit_read : (c : ℕ) → digit_value c < 16 → hex_digit_value c ≡ Some (digit_value c)
digit_read c h = grind (arith)

pair_read : (a b i : ℕ) → digit_value a < 16 → digit_value b < 16 → pair_value a b i ≡ Ok (digit_value a * 16 + digit_value b)
pair_read a b i h k =
    let high : value_at a i ≡ Ok (digit_value a) = ap (digit_or_error a i) (digit_read a h) in
    let low : value_at b (i + 1) ≡ Ok (digit_value b) = ap (digit_or_error b (i + 1)) (digit_read b k) in
    rw (high, low) refl

none_read : decode_pairs 4 [] ≡ Ok []
unfolding decode_pairs
none_read = refl

-- what four digits are decoded to
pub record AreFour (text : List ℕ) : Type 0 where
  pub high : ℕ
  pub low : ℕ
  pub read : decode_sized text 2 ≡ Ok (high ∷ low ∷ [])
  pub number : high * 256 + low ≡ digits_value 16 text

pub four_read : (text : List ℕ) → length text ≡ 4 → AllDigits 16 text → AreFour text
four_read [] long h = absurd (omega (arith, long))
four_read (a ∷ []) long h = absurd (omega (arith, long))
four_read (a ∷ b ∷ []) long h = absurd (omega (arith, long))
four_read (a ∷ b ∷ c ∷ []) long h = absurd (omega (arith, long))
four_read (a ∷ b ∷ c ∷ d ∷ e ∷ rest) long h = absurd (omega (arith, long))
four_read (a ∷ b ∷ c ∷ d ∷ []) long (ha, (hb, (hc, (hd, none)))) =
    let high = digit_value a * 16 + digit_value b in
    let low = digit_value c * 16 + digit_value d in
    record {
      high = high;
      low = low;
      read = decode_pairs-ok_pair 0 a b high (c ∷ d ∷ []) (pair_read a b 0 ha hb)
          ∙ ap (cons_byte high) (decode_pairs-ok_pair 2 c d low [] (pair_read c d 2 hc hd) ∙ ap (cons_byte low) none_read);
      number = omega arith;
    }

-- digits behind as many zeros as make them four
abbrev pub padded : ℕ → List ℕ → List ℕ
padded count digits = put_mid (4 - count) (4 - (4 - count)) (replicate 4 48) digits

-- four digits that have the number of others
pub record HasNumber (digits text : List ℕ) : Type 0 where
  pub four : AreFour text
  pub same : digits_value 16 text ≡ digits_value 16 digits

zero_digit : digit_value 48 < 16
zero_digit = omega arith

padded_read : (digits : List ℕ) → length digits ≤ 4 → AllDigits 16 digits → HasNumber digits (padded (length digits) digits)
padded_read [] few h = record { four = four_read (48 ∷ 48 ∷ 48 ∷ 48 ∷ []) refl (zero_digit, (zero_digit, (zero_digit, (zero_digit, tt)))); same = refl }
padded_read (a ∷ []) few h = record { four = four_read (48 ∷ 48 ∷ 48 ∷ a ∷ []) refl (zero_digit, (zero_digit, (zero_digit, h))); same = refl }
padded_read (a ∷ b ∷ []) few h = record { four = four_read (48 ∷ 48 ∷ a ∷ b ∷ []) refl (zero_digit, (zero_digit, h)); same = refl }
padded_read (a ∷ b ∷ c ∷ []) few h = record { four = four_read (48 ∷ a ∷ b ∷ c ∷ []) refl (zero_digit, h); same = refl }
padded_read (a ∷ b ∷ c ∷ d ∷ []) few h = record { four = four_read (a ∷ b ∷ c ∷ d ∷ []) refl h; same = refl }
padded_read (a ∷ b ∷ c ∷ d ∷ e ∷ rest) few h = absurd (omega (arith, few))

pub padded_same : (digits copied : List ℕ) → copied ≡ digits → length digits ≤ 4 → AllDigits 16 digits → HasNumber digits (padded (length digits) copied)
padded_same digits copied e few h = subst (λ l. HasNumber digits (padded (length digits) l)) (sym e) (padded_read digits few h)

-- what decoding four digits answers
pub decoded : (text new : List ℕ) (r : Result (Unit {0}) FromHexError) (f : AreFour text)
    → MatchResult (decode_sized text 2) (λ bytes. (r ≡ Ok tt) × (new ≡ bytes)) (λ e. r ≡ Err e)
    → (r ≡ Ok tt) × (new ≡ f.high ∷ f.low ∷ [])
decoded text new r f h = rw f.read at h

-- ---- written

glyph_is : (d : ℕ) → d < 16 → slice_index lower_digits d ≡ digit_glyph false d
glyph_is d h = elim (cases_lt d 10) [
  | inl less ↦ rw (lt-ltb d 10 less) (grind (arith, nat_tests))
  | inr more ↦ rw (le-ltb d 10 more) (grind (arith, nat_tests))
]

pub byte_written : (b : ℕ) → b < 256 → encode_lower (b ∷ []) ≡ hex_of b
unfolding encode_with
byte_written b h = rw (glyph_is (b / 16) (omega (arith, h)), glyph_is (b % 16) (omega arith)) refl

word_digits : (n : ℕ) → n < 65536 → encode_lower (n / 256 ∷ n % 256 ∷ []) ≡ four_digits n
unfolding encode_with
word_digits n h =
    rw (glyph_is (n / 256 / 16) (omega (arith, h)), glyph_is (n / 256 % 16) (omega arith), glyph_is (n % 256 / 16) (omega arith), glyph_is (n % 256 % 16) (omega arith)) refl

pub word_written : (n : ℕ) → n < 65536 → encode_lower (n / 256 % 256 ∷ n % 256 ∷ []) ≡ four_digits n
word_written n h =
    let high : n / 256 % 256 ≡ n / 256 = omega (arith, h) in
    ap (λ b. encode_lower (b ∷ n % 256 ∷ [])) high ∙ word_digits n h

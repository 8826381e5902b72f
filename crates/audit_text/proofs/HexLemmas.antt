-- Numbers in hex digits.
use Rattle.std.proofs.Common.{◌≡◌, ℕ, zero, suc, ◌<◌, ◌≤◌, ◌/◌, ◌%◌, false, [], ◌∷◌, ◌++◌, map, refl, sym, ap, ◌∙◌, arith}
use Rattle.std.specs.Fmt.{digit_glyph}
use Rattle.std.specs.Int.Digits as numbers
use Rattle.std.proofs.lemmas.Bool.{ne_eqb}
use Rattle.std.proofs.lemmas.Int.Digits.{digits_of_step}
use Rattle.std.proofs.lemmas.List.{map-append}
use Rattle.audit_text.specs.Texts.{hex_text}

-- the digits of a number above 0
shown_digits : (n : ℕ) → 0 < n → hex_text n ≡ map (digit_glyph false) (numbers.digits_of 16 n)
shown_digits n some = rw (ne_eqb n 0 (omega (arith, some))) refl

-- the last digit stands behind those of a sixteenth
pub hex_step : (n : ℕ) → 16 ≤ n → hex_text n ≡ hex_text (n / 16) ++ digit_glyph false (n % 16) ∷ []
hex_step n le =
    let some : 0 < n / 16 = omega (arith, le) in
    shown_digits n (omega (arith, le)) ∙ ap (map (digit_glyph false)) (digits_of_step 16 n (omega arith) (omega (arith, le)))
    ∙ map-append (digit_glyph false) (numbers.digits_of 16 (n / 16)) (n % 16 ∷ [])
    ∙ ap (λ l. l ++ digit_glyph false (n % 16) ∷ []) (sym (shown_digits (n / 16) some))

-- a number of one digit
pub hex_digit : (n : ℕ) → n < 16 → hex_text n ≡ digit_glyph false (n % 16) ∷ []
hex_digit zero le = refl
hex_digit (suc n) le =
    let none : suc n / 16 ≡ 0 = omega (arith, le) in
    shown_digits (suc n) (omega arith) ∙ ap (map (digit_glyph false)) (digits_of_step 16 (suc n) (omega arith) (omega arith))
    ∙ ap (λ k. map (digit_glyph false) (numbers.digits_of 16 k ++ suc n % 16 ∷ [])) none

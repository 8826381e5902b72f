-- Numbers, as they are written and read.
use Rattle.std.proofs.Common.{◌≡◌, ℤ, pos, negsuc, neg_ℤ, nat_abs, ◌&&◌, ℕ, zero, suc, ◌+◌, ◌^◌, ◌<◌, ◌≤◌, nat_le, Bool, true, cond, List, [], ◌∷◌, ◌++◌, length, get_or, Option, Some, None, decimal, refl, ap, ◌∙◌, arith, length-append}
use Rattle.std.specs.Char.{digit_value, is_digit}
use Rattle.std.specs.Fmt.{signed_decimal}
use Rattle.std.specs.Str.Parse.{AllDigits, IsNumeral, digits_value}
use Rattle.std.proofs.lemmas.Bool.{and_from, le-leb, lt-ltb, ne_eqb, or_from}
use Rattle.std.proofs.lemmas.Fmt.{decimal_digit, decimal_is_IsNumeral, first_decimal}
use Rattle.std.proofs.lemmas.Str.Parse.{digit_from_value}
use Rattle.json_laws.specs.Reading.{all, bind, collected, done, either, in_front, int, is_space, number, number_in, one, repeated, sign, then_read, token, word}

abbrev is_decimal : ℕ → Bool
is_decimal c = is_digit c 10

-- no digit stands first
abbrev pub NoDigit : List ℕ → Type 0
NoDigit t = one (λ c. is_digit c 10) t ≡ None

abbrev all_digits : ℕ → List ℕ → List ℕ × List ℕ
all_digits count l = repeated [] (λ c cs. c ∷ cs) (one is_decimal) count l

digits_read : (ds : List ℕ) (count : ℕ) (t : List ℕ) → AllDigits 10 ds → NoDigit t → length ds ≤ count → all_digits count (ds ++ t) ≡ (ds, t)
unfolding repeated
digits_read [] zero t digits none enough = refl
digits_read [] (suc count) t digits none enough = ap (collected [] (λ c cs. c ∷ cs) t (all_digits count)) none
digits_read (d ∷ ds) zero t digits none enough = absurd (omega arith)
digits_read (d ∷ ds) (suc count) t digits none enough =
    ap (λ (b : Bool). collected [] (λ c cs. c ∷ cs) (d ∷ (ds ++ t)) (all_digits count) (cond b (Some (d, ds ++ t)) None)) (lt-ltb (digit_value d) 10 digits.0)
    ∙ ap (in_front (λ cs. d ∷ cs)) (digits_read ds count t digits.1 none (omega arith))

-- the digits of a number that is not 0
digits_int : (ds t : List ℕ) → IsNumeral 10 ds → 48 < get_or ds 0 0 → NoDigit t → int (ds ++ t) ≡ Some (digits_value 10 ds, t)
digits_int [] t digits first none = absurd (omega arith)
digits_int (d ∷ ds) t digits first none =
    let range = digit_from_value d digits.1.0 in
    let long : length (ds ++ t) ≡ length ds + length t = length-append ds t in
    ap (λ (b : Bool). either (bind (cond (b && true) (Some (tt, ds ++ t)) None) λ _. done 0) (then_read (one (λ c. nat_le 49 c && nat_le c 57)) λ digit. then_read (all is_decimal) λ digits. done (digits_value 10 (digit ∷ digits))) (d ∷ (ds ++ t))) (ne_eqb d 48 (λ e. omega arith))
    ∙ ap (λ (b : Bool). bind (cond b (Some (d, ds ++ t)) None) λ digit. then_read (all is_decimal) λ digits. done (digits_value 10 (digit ∷ digits))) (and_from _ _ (le-leb 49 d (omega arith)) (le-leb d 57 range.1))
    ∙ ap (λ (p : List ℕ × List ℕ). Some (digits_value 10 (d ∷ p.0), p.1)) (digits_read ds (length (ds ++ t)) t digits.1.1 none (omega arith))

read_int : (n : ℕ) (t : List ℕ) → n < 2 ^ 64 → NoDigit t → int (decimal n ++ t) ≡ Some (n, t)
read_int zero t small none = ap (λ l. int (l ++ t)) (decimal_digit 0 (omega arith))
read_int (suc n) t small none =
    let numeral = decimal_is_IsNumeral (suc n) small in
    digits_int (decimal (suc n)) t numeral.0 (first_decimal (suc n) (omega arith) small) none ∙ ap (λ v. Some (v, t)) numeral.1

no_space : (d : ℕ) (ds : List ℕ) → 48 ≤ d → all is_space (d ∷ ds) ≡ Some ([], d ∷ ds)
unfolding repeated
no_space d ds digit =
    ap (λ (b : Bool). Some (collected [] (λ c cs. c ∷ cs) (d ∷ ds) (λ l. repeated [] (λ c cs. c ∷ cs) (one is_space) (length ds) l) (cond b (Some (d, ds)) None)))
    (or_from _ _ (or_from _ _ (or_from _ _ (ne_eqb d 0x20 (λ e. omega arith)) (ne_eqb d 0x09 (λ e. omega arith))) (ne_eqb d 0x0A (λ e. omega arith))) (ne_eqb d 0x0D (λ e. omega arith)))

behind_no_space : (n : ℕ) (ds t : List ℕ) → IsNumeral 10 ds → int (ds ++ t) ≡ Some (n, t) → token int (ds ++ t) ≡ Some (n, t)
behind_no_space n [] t digits e = absurd (omega arith)
behind_no_space n (d ∷ ds) t digits e =
    let range = digit_from_value d digits.1.0 in
    ap (λ (o : Option (List ℕ × List ℕ)). bind o λ _. int) (no_space d (ds ++ t) range.0) ∙ e

no_minus_first : (ds t : List ℕ) → IsNumeral 10 ds → sign "-" (ds ++ t) ≡ None
no_minus_first [] t digits = absurd (omega arith)
no_minus_first (d ∷ ds) t digits =
    let range = digit_from_value d digits.1.0 in
    ap (λ (o : Option (List ℕ × List ℕ)). bind o λ _. word "-") (no_space d (ds ++ t) range.0)
    ∙ ap (λ (b : Bool). cond (b && true) (Some (tt, ds ++ t)) None) (ne_eqb d 45 (λ e. omega arith))

read_natural : (n : ℕ) (t : List ℕ) → n < 2 ^ 64 → NoDigit t → token int (decimal n ++ t) ≡ Some (n, t)
read_natural n t small none = behind_no_space n (decimal n) t (decimal_is_IsNumeral n small).0 (read_int n t small none)

-- what is written of a number is read as it
pub read_number : (z : ℤ) (t : List ℕ) → nat_abs z < 2 ^ 64 → NoDigit t → number_in (signed_decimal z ++ t) ≡ Some (number z, t)
unfolding repeated
read_number (pos n) t small none =
    ap (λ (o : Option (Unit {0} × List ℕ)). either (bind o λ _. then_read int λ n. done (number (neg_ℤ (pos n)))) (then_read (token int) λ n. done (number (pos n))) (decimal n ++ t))
    (no_minus_first (decimal n) t (decimal_is_IsNumeral n small).0)
    ∙ ap (λ (o : Option (ℕ × List ℕ)). bind o λ n. done (number (pos n))) (read_natural n t small none)
read_number (negsuc n) t small none =
    ap (λ (o : Option (ℕ × List ℕ)). either (bind o λ n. done (number (neg_ℤ (pos n)))) (then_read (token int) λ n. done (number (pos n))) (45 ∷ (decimal (suc n) ++ t)))
    (read_int (suc n) t small none)

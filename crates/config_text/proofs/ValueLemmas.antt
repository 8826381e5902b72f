-- The value of digits, and its bytes.
use Rattle.std.proofs.Common.{◌≡◌, ◌==◌, ◌&&◌, ℕ, zero, suc, ◌+◌, ◌-◌, ◌*◌, ◌^◌, ◌<◌, ◌≤◌, true, List, [], ◌∷◌, ◌++◌, length, take, drop, get_or, slice_set, refl, sym, ap, subst, ◌∙◌, arith, length-drop, add-one, add-mul}
use Rattle.std.specs.Char.{digit_value}
use Rattle.std.specs.List.{list_all}
use Rattle.std.specs.Str.Parse.{digits_value, digits_value_after}
use Rattle.std.proofs.Math.Nat.{mul_assoc, mul-add, mul-suc, pow-suc, pow-succ', pow-le-pow_right}
use Rattle.std.proofs.lemmas.Bool.{and_parts, eqb-true}
use Rattle.std.proofs.lemmas.List.{take-append-drop, get_or-set_same, get_or-set_other}
use Rattle.std.proofs.lemmas.Int.Digits.{digits_value-lt}
use Rattle.byteorder.specs.Endian.{little_from, little_number}
use Rattle.config_text.specs.code.PartReading.{fits_width, are_hex}
use Rattle.config_text.proofs.ReadLemmas.{hex-to, hex_parts}

-- ---- the last two digits

value_behind : (n : ℕ) (digits : List ℕ) → digits_value_after 16 n digits ≡ n * 16 ^ length digits + digits_value 16 digits
value_behind n [] = omega arith
value_behind n (d ∷ digits) =
    let p = 16 ^ length digits in
    let power : 16 ^ suc (length digits) ≡ 16 * p = pow-succ' 16 (length digits) in
    let shift : n * 16 ^ suc (length digits) ≡ n * (16 * p) = ap (λ k. n * k) power in
    let open_1 : (n * 16 + digit_value d) * p ≡ n * (16 * p) + digit_value d * p = add-mul (n * 16) (digit_value d) p ∙ ap (λ k. k + digit_value d * p) (mul_assoc n 16 p) in
    let all = value_behind (n * 16 + digit_value d) digits in
    let own = value_behind (0 * 16 + digit_value d) digits in
    omega (arith, shift, open_1, all, own)

value_append : (front digits : List ℕ) (n : ℕ) → digits_value_after 16 n (front ++ digits) ≡ digits_value_after 16 (digits_value_after 16 n front) digits
value_append [] digits n = refl
value_append (d ∷ front) digits n = value_append front digits (n * 16 + digit_value d)

-- the value of digits by that of the last two
pub value_split : (digits : List ℕ) → digits_value 16 digits ≡ 256 * digits_value 16 (take (length digits - 2) digits) + digits_value 16 (drop (length digits - 2) digits)
value_split [] = refl
value_split (a ∷ []) = omega arith
value_split (a ∷ b ∷ digits) =
    let all = a ∷ b ∷ digits in
    let k = length all - 2 in
    let front = take k all in
    let last = drop k all in
    let two : length last ≡ 2 = omega (arith, length-drop k all) in
    let whole : digits_value 16 all ≡ digits_value_after 16 (digits_value 16 front) last = ap (digits_value 16) (sym (take-append-drop k all)) ∙ value_append front last 0 in
    let power : digits_value 16 front * 16 ^ length last ≡ digits_value 16 front * 256 = ap (λ n. digits_value 16 front * 16 ^ n) two in
    omega (arith, whole, value_behind (digits_value 16 front) last, power)

-- ---- digits that fit

zeros_value : (zeros digits : List ℕ) → list_all (λ digit. digit == 48) zeros ≡ true → digits_value 16 (zeros ++ digits) ≡ digits_value 16 digits
zeros_value [] digits e = refl
zeros_value (z ∷ zeros) digits e =
    let p = and_parts _ _ e in
    ap (λ z. digits_value 16 (z ∷ (zeros ++ digits))) (eqb-true z 48 p.0) ∙ zeros_value zeros digits p.1

pow_double : (w : ℕ) → 16 ^ (2 * w) ≡ 256 ^ w
pow_double zero = refl
pow_double (suc w) =
    let twice : 2 * suc w ≡ suc (suc (2 * w)) = omega arith in
    let one : 16 ^ suc (suc (2 * w)) ≡ 16 ^ suc (2 * w) * 16 = pow-suc 16 (suc (2 * w)) in
    let two : 16 ^ suc (2 * w) ≡ 16 ^ (2 * w) * 16 = pow-suc 16 (2 * w) in
    let there : 256 ^ suc w ≡ 256 ^ w * 256 = pow-suc 256 w in
    ap (λ k. 16 ^ k) twice ∙ omega (arith, one, two, there, pow_double w)

pub value_fits : (width : ℕ) (digits : List ℕ) → (are_hex digits && fits_width width digits) ≡ true → digits_value 16 digits < 256 ^ width
value_fits width digits e =
    let p = and_parts _ _ e in
    let k = length digits - 2 * width in
    let back = drop k digits in
    let same : digits_value 16 digits ≡ digits_value 16 back = ap (digits_value 16) (sym (take-append-drop k digits)) ∙ zeros_value (take k digits) back p.1 in
    let less : digits_value 16 back < 16 ^ length back = digits_value-lt 16 back (hex-to back (hex_parts k digits p.0).1) in
    let short : length back ≤ 2 * width = omega (arith, length-drop k digits) in
    let power : 16 ^ length back ≤ 16 ^ (2 * width) = pow-le-pow_right (omega arith) short in
    omega (arith, same, less, power, pow_double width)

-- ---- bytes, the lowest first

little_more : (k n : ℕ) (xs : List ℕ) → little_from k (suc n) xs ≡ little_from k n xs + 256 ^ n * get_or xs (k + n) 0
little_more k zero xs =
    let place : k ≡ k + 0 = omega arith in
    let same : get_or xs k 0 ≡ get_or xs (k + 0) 0 = ap (λ i. get_or xs i 0) place in
    omega (arith, same)
little_more k (suc n) xs =
    let rest : little_from (suc k) (suc n) xs ≡ little_from (suc k) n xs + 256 ^ n * get_or xs (suc k + n) 0 = little_more (suc k) n xs in
    let place : suc k + n ≡ k + suc n = omega arith in
    let last : get_or xs (suc k + n) 0 ≡ get_or xs (k + suc n) 0 = ap (λ i. get_or xs i 0) place in
    let b = get_or xs (k + suc n) 0 in
    let shift : 256 ^ suc n * b ≡ 256 * (256 ^ n * b) = ap (λ p. p * b) (pow-succ' 256 n) ∙ mul_assoc 256 (256 ^ n) b in
    let same : 256 ^ n * get_or xs (suc k + n) 0 ≡ 256 ^ n * b = ap (λ x. 256 ^ n * x) last in
    omega (arith, rest, shift, same)

little_same : (k n : ℕ) (xs ys : List ℕ) → ((i : ℕ) → i < k + n → get_or xs i 0 ≡ get_or ys i 0) → little_from k n xs ≡ little_from k n ys
little_same k zero xs ys h = refl
little_same k (suc n) xs ys h =
    let here : get_or xs k 0 ≡ get_or ys k 0 = h k (omega arith) in
    omega (arith, here, little_same (suc k) n xs ys (λ i less. h i (omega (arith, less))))

-- The first bytes of a number are written, and the rest stands in digits.
pub record IsPartly (digits : List ℕ) (out : List ℕ) (count : ℕ) (rest : List ℕ) : Type 0 where
  pub hex : are_hex rest ≡ true
  pub value : digits_value 16 digits ≡ little_number count out + 256 ^ count * digits_value 16 rest

pub Partly-start : (digits out : List ℕ) → are_hex digits ≡ true → IsPartly digits out 0 digits
Partly-start digits out hex = record { hex = hex; value = omega arith }

pub Partly-more : (digits out : List ℕ) (count : ℕ) (rest before : List ℕ) (low : ℕ) → IsPartly digits out count rest → count < length out → are_hex before ≡ true
    → digits_value 16 rest ≡ 256 * digits_value 16 before + low → IsPartly digits (slice_set out count low) (count + 1) before
Partly-more digits out count rest before low h less hex e =
    let new = slice_set out count low in
    let p = 256 ^ count in
    let v = digits_value 16 before in
    let kept : little_number count new ≡ little_number count out = little_same 0 count new out (λ i small. get_or-set_other out count i low 0 (λ same. omega (arith, same, small))) in
    let place : 0 + count ≡ count = omega arith in
    let last : get_or new (0 + count) 0 ≡ low = ap (λ i. get_or new i 0) place ∙ get_or-set_same out count low 0 less in
    let more : little_number (suc count) new ≡ little_number count new + p * get_or new (0 + count) 0 = little_more 0 count new in
    let put : p * get_or new (0 + count) 0 ≡ p * low = ap (λ x. p * x) last in
    let open_1 : p * digits_value 16 rest ≡ p * (256 * v + low) = ap (λ x. p * x) e in
    let open_2 : p * (256 * v + low) ≡ p * (256 * v) + p * low = mul-add p (256 * v) low in
    let open_3 : p * (256 * v) ≡ 256 ^ suc count * v = sym (mul_assoc p 256 v) ∙ ap (λ x. x * v) (sym (pow-suc 256 count)) in
    let whole : digits_value 16 digits ≡ little_number (suc count) new + 256 ^ suc count * v = omega (arith, h.value, kept, more, put, open_1, open_2, open_3) in
    rw add-one (record { hex = hex; value = whole })

-- what is left of digits that fit is 0
pub Partly-end : (width : ℕ) (digits out rest : List ℕ) (count : ℕ) → (are_hex digits && fits_width width digits) ≡ true → count ≡ width → IsPartly digits out count rest
    → little_number width out ≡ digits_value 16 digits
Partly-end width digits out rest count e same h = go (digits_value 16 rest) (subst (λ n. digits_value 16 digits ≡ little_number n out + 256 ^ n * digits_value 16 rest) same h.value)
  where
    go : (v : ℕ) → digits_value 16 digits ≡ little_number width out + 256 ^ width * v → little_number width out ≡ digits_value 16 digits
    go zero value = omega (arith, value)
    go (suc v) value =
        let more : 256 ^ width * suc v ≡ 256 ^ width * v + 256 ^ width = mul-suc (256 ^ width) v in
        absurd (omega (arith, value, more, value_fits width digits e))

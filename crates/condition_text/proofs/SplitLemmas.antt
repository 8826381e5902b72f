-- Bytes split at the first that stops them, and numbers in digits at their front.
use Rattle.std.proofs.Common.{◌≡◌, ℕ, ◌+◌, ◌%◌, ◌^◌, ◌<◌, ◌&&◌, Bool, true, false, if◌then◌else◌, not, List, [], ◌∷◌, ◌++◌, length, refl, ap, ◌∙◌, arith, ltb, leb}
use Rattle.std.specs.Prelude.{decimal}
use Rattle.std.specs.List.{AllByRecursion}
use Rattle.std.specs.Str.Parse.{digits_value}
use Rattle.std.proofs.lemmas.Bool.{cond-true, cond-false, and_from, lt-ltb, le-leb}
use Rattle.std.proofs.lemmas.Fmt.{decimal_by_steps, decimal_is_IsNumeral}

-- the bytes before the first that stops, and those from it on
abbrev pub split : (ℕ → Bool) → List ℕ → List ℕ × List ℕ
split stops [] = ([], [])
split stops (b ∷ bytes) = if stops b then ([], b ∷ bytes) else (b ∷ (split stops bytes).0, (split stops bytes).1)

-- nothing, or what stops
abbrev pub AtStop : (ℕ → Bool) → List ℕ → Type 0
AtStop stops [] = Unit {0}
AtStop stops (b ∷ bytes) = stops b ≡ true

pub split_stop : (stops : ℕ → Bool) (rest : List ℕ) → AtStop stops rest → split stops rest ≡ ([], rest)
split_stop stops [] at = refl
split_stop stops (b ∷ rest) at = cond-true (stops b) _ _ at

pub split_all : (stops : ℕ → Bool) (front rest : List ℕ) → AllByRecursion (λ b. stops b ≡ false) front → AtStop stops rest → split stops (front ++ rest) ≡ (front, rest)
split_all stops [] rest go at = split_stop stops rest at
split_all stops (b ∷ front) rest go at =
    cond-false (stops b) _ _ go.0
    ∙ ap (λ (p : List ℕ × List ℕ). (b ∷ p.0, p.1)) (split_all stops front rest go.1 at)

-- ---- numbers

abbrev pub is_digit : ℕ → Bool
is_digit b = leb 48 b && ltb b 58

abbrev pub no_digit : ℕ → Bool
no_digit b = not (is_digit b)

-- the number at the front, and what stands behind its digits
abbrev pub read_number : List ℕ → ℕ × List ℕ
read_number bytes = (digits_value 10 (split no_digit bytes).0, (split no_digit bytes).1)

digit_of : (d : ℕ) → d < 10 → is_digit (48 + d) ≡ true
digit_of d small = and_from _ _ (le-leb 48 (48 + d) (omega arith)) (lt-ltb (48 + d) 58 (omega arith))

abbrev AreDigits : List ℕ → Type 0
AreDigits text = (0 < length text) × AllByRecursion (λ b. is_digit b ≡ true) text

join_all : (xs ys : List ℕ) → AllByRecursion (λ b. is_digit b ≡ true) xs → AllByRecursion (λ b. is_digit b ≡ true) ys → AllByRecursion (λ b. is_digit b ≡ true) (xs ++ ys)
join_all [] ys p q = q
join_all (x ∷ xs) ys p q = (p.0, join_all xs ys p.1 q)

some_more : (xs : List ℕ) (y : ℕ) → 0 < length (xs ++ y ∷ [])
some_more [] y = omega arith
some_more (x ∷ xs) y = omega arith

decimal_digits : (n : ℕ) → n < 2 ^ 64 → AreDigits (decimal n)
decimal_digits =
    decimal_by_steps (λ n text. AreDigits text) (λ n small. (omega arith, (digit_of n small, tt)))
    (λ n text large before. (some_more text (48 + n % 10), join_all text ((48 + n % 10) ∷ []) before.1 (digit_of (n % 10) (omega arith), tt)))

going : (text : List ℕ) → AllByRecursion (λ b. is_digit b ≡ true) text → AllByRecursion (λ b. no_digit b ≡ false) text
going [] all = tt
going (b ∷ text) all = (ap not all.0, going text all.1)

-- a number that was written is read
pub number_read : (n : ℕ) (rest : List ℕ) → n < 2 ^ 64 → AtStop no_digit rest → read_number (decimal n ++ rest) ≡ (n, rest)
number_read n rest small at =
    ap (λ (p : List ℕ × List ℕ). (digits_value 10 p.0, p.1)) (split_all no_digit (decimal n) rest (going (decimal n) (decimal_digits n small).1) at)
    ∙ ap (λ (m : ℕ). (m, rest)) (decimal_is_IsNumeral n small).1

abbrev pub head : List ℕ → ℕ
head [] = 0
head (b ∷ bytes) = b

digit_first : (text rest : List ℕ) → AreDigits text → is_digit (head (text ++ rest)) ≡ true
digit_first [] rest are = absurd (omega (arith, are.0))
digit_first (b ∷ text) rest are = are.1.0

-- the first byte of a number is a digit
pub digit_head : (n : ℕ) (rest : List ℕ) → n < 2 ^ 64 → is_digit (head (decimal n ++ rest)) ≡ true
digit_head n rest small = digit_first (decimal n) rest (decimal_digits n small)

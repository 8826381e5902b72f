-- The values of questions and expressions, and what operators make of them (UEFI 2.8, 33.2.5.7 Expressions and
-- 33.3.8.3; where these leave a choice it is an own rule). A number has 64 bits and no sign.
use Rattle.std.specs.Prelude.{ℕ, ◌%◌, ◌^◌, Bool, false, ◌==◌, nat_lt, not, if◌then◌else◌, Option, Some, None}
use Rattle.std.specs.Prelude.{option_map, unwrap_or, List, bytes_eq}
use Rattle.browser_rules.specs.Words.{is_among}

-- A text is the bytes of its units, two each.
pub data Value : Type 0 where
  undefined : Value
  boolean : (b : Bool) → Value
  natural : (n : ℕ) → Value
  text : (bytes : List ℕ) → Value
  buffer : (bytes : List ℕ) → Value

-- A Boolean counts as 0 or 1 where a number is wanted.
abbrev pub as_number : Value → Option ℕ
as_number (boolean b) = Some (if b then 1 else 0)
as_number (natural n) = Some n
as_number _ = None

-- what is made of two numbers, and of two Booleans; of anything else nothing is made
abbrev pub numbers : (ℕ → ℕ → Value) → Value → Value → Value
numbers makes left right = of_both (as_number left) (as_number right)
  where
    of_both : Option ℕ → Option ℕ → Value
    of_both (Some x) (Some y) = makes x y
    of_both _ _ = undefined

abbrev pub booleans : (Bool → Bool → Bool) → Value → Value → Value
booleans makes (boolean a) (boolean b) = boolean (makes a b)
booleans makes _ _ = undefined

abbrev pub negated : Value → Value
negated (boolean b) = boolean (not b)
negated _ = undefined

abbrev pub are_same_number : Value → Value → Value
are_same_number left right = numbers (λ x y. boolean (x == y)) left right

-- whether a number is one of these
abbrev pub is_listed : List ℕ → Value → Value
is_listed ns v = unwrap_or (option_map (λ n. boolean (is_among n ns)) (as_number v)) undefined

-- Two numbers are compared, two texts, or two buffers.
abbrev pub are_equal : Value → Value → Value
are_equal (text xs) (text ys) = boolean (bytes_eq xs ys)
are_equal (buffer xs) (buffer ys) = boolean (bytes_eq xs ys)
are_equal left right = are_same_number left right

-- the lowest 64 bits of a number
abbrev pub wrapped : ℕ → Value
wrapped n = natural (n % 2 ^ 64)

-- A divisor 0 gives the value that is undefined. A shift by 64 or more leaves 0.
abbrev pub divided : (ℕ → ℕ → ℕ) → ℕ → ℕ → Value
divided makes x y = if y == 0 then undefined else natural (makes x y)

abbrev pub shifted : (ℕ → ℕ → ℕ) → ℕ → ℕ → Value
shifted makes x y = if nat_lt y 64 then wrapped (makes x y) else natural 0

-- A condition holds where it is true, or a number other than 0.
abbrev pub holds : Value → Bool
holds (boolean b) = b
holds (natural n) = not (n == 0)
holds _ = false

-- what an operator looks at beside its operands: the answers of questions, the value of the rule of an id, and the id
-- of the question around it, 0 for none
pub record Around : Type 0 where
  pub answers : ℕ → Value
  pub rule : ℕ → Value
  pub this : ℕ

-- what the question of an id answers; id 0 has no answer
abbrev pub answer : Around → ℕ → Value
answer around id = if id == 0 then undefined else around.answers id

-- The values of expressions and of questions, and what operators make of them (UEFI 2.8, 33.2.5.7 Expressions and 33.3.8.3
-- Opcode Reference; where these leave a choice it is an own rule).
use Rattle.std.specs.Prelude.{ℕ, ◌+◌, ◌-◌, ◌*◌, ◌/◌, ◌%◌, ◌^◌, Bool, true, false, ◌==◌, ◌&&◌, ◌||◌, nat_lt, nat_le, not, if◌then◌else◌, Option, Some, None, List, bytes_eq, bit_and, bit_or}
use Rattle.std.specs.List.{list_any}
use Rattle.ifr_opcodes.specs.declared.codes.TheConstants.{AND, OR, NOT, EQUAL, NOT_EQUAL, GREATER_THAN, GREATER_EQUAL, LESS_THAN, LESS_EQUAL, BITWISE_AND, BITWISE_OR, BITWISE_NOT, SHIFT_LEFT, SHIFT_RIGHT, ADD, SUBTRACT, MULTIPLY, DIVIDE, MODULO, TRUE, FALSE, ZERO, ONE, ONES}

-- Numbers have 64 bits and no sign.
pub data Value : Type 0 where
  undefined : Value
  boolean : (b : Bool) → Value
  natural : (n : ℕ) → Value
  text : (units : List ℕ) → Value
  buffer : (bytes : List ℕ) → Value

-- whether a condition of this value holds
abbrev pub holds : Value → Bool
holds (boolean b) = b
holds (natural n) = not (n == 0)
holds _ = false

-- A Boolean counts as 0 or 1 where a number is wanted.
abbrev pub as_number : Value → Option ℕ
as_number (boolean b) = Some (if b then 1 else 0)
as_number (natural n) = Some n
as_number _ = None

abbrev pub of_both : (ℕ → ℕ → Value) → Option ℕ → Option ℕ → Value
of_both f (Some x) (Some y) = f x y
of_both f _ _ = undefined

-- what is made of two numbers; of anything else nothing is made
abbrev pub on_numbers : (ℕ → ℕ → Value) → Value → Value → Value
on_numbers f left right = of_both f (as_number left) (as_number right)

-- what is made of two Booleans
abbrev pub on_booleans : (Bool → Bool → Bool) → Value → Value → Value
on_booleans f (boolean a) (boolean b) = boolean (f a b)
on_booleans f _ _ = undefined

-- Two numbers are compared, two texts, or two buffers.
abbrev pub are_equal : Value → Value → Value
are_equal (text xs) (text ys) = boolean (bytes_eq xs ys)
are_equal (buffer xs) (buffer ys) = boolean (bytes_eq xs ys)
are_equal left right = on_numbers (λ x y. boolean (x == y)) left right

abbrev pub negated : Value → Value
negated (boolean b) = boolean (not b)
negated _ = undefined

-- as a number of 64 bits, the higher bits lost
abbrev pub wrapped : ℕ → Value
wrapped n = natural (n % 2 ^ 64)

-- the value of an operator with one operand, by its number
unfoldable pub unary_value : ℕ → Value → Value
unary_value code value =
    if code == NOT then negated value
    else (if code == BITWISE_NOT then on_numbers (λ x y. natural (2 ^ 64 - 1 - x)) value value
    else undefined)

-- the value of an operator with two operands that are numbers; a divisor 0 gives none
unfoldable pub number_value : ℕ → ℕ → ℕ → Value
number_value code x y =
    if code == GREATER_THAN then boolean (nat_lt y x)
    else (if code == GREATER_EQUAL then boolean (nat_le y x)
    else (if code == LESS_THAN then boolean (nat_lt x y)
    else (if code == LESS_EQUAL then boolean (nat_le x y)
    else (if code == BITWISE_AND then natural (bit_and x y)
    else (if code == BITWISE_OR then natural (bit_or x y)
    else (if code == SHIFT_LEFT then (if nat_lt y 64 then wrapped (x * 2 ^ y) else natural 0)
    else (if code == SHIFT_RIGHT then (if nat_lt y 64 then natural (x / 2 ^ y) else natural 0)
    else (if code == ADD then wrapped (x + y)
    else (if code == SUBTRACT then wrapped (x + 2 ^ 64 - y)
    else (if code == MULTIPLY then wrapped (x * y)
    else (if code == DIVIDE then (if y == 0 then undefined else natural (x / y))
    else (if code == MODULO then (if y == 0 then undefined else natural (x % y))
    else undefined))))))))))))

-- the value of an operator with two operands, by its number
unfoldable pub binary_value : ℕ → Value → Value → Value
binary_value code left right =
    if code == AND then on_booleans (λ a b. a && b) left right
    else (if code == OR then on_booleans (λ a b. a || b) left right
    else (if code == EQUAL then are_equal left right
    else (if code == NOT_EQUAL then negated (are_equal left right)
    else on_numbers (number_value code) left right)))

-- the value of an operator that is its own value, by its number
unfoldable pub constant_value : ℕ → Value
constant_value code =
    if code == TRUE then boolean true
    else (if code == FALSE then boolean false
    else (if code == ZERO then natural 0
    else (if code == ONE then natural 1
    else (if code == ONES then natural (2 ^ 64 - 1)
    else undefined))))

-- whether two answers are equal as numbers, as EQ_ID_VAL and EQ_ID_ID ask
abbrev pub are_same : Value → Value → Value
are_same left right = on_numbers (λ x y. boolean (x == y)) left right

abbrev pub is_in : List ℕ → Option ℕ → Value
is_in numbers None = undefined
is_in numbers (Some n) = boolean (list_any (λ x. x == n) numbers)

-- whether an answer is one of some numbers, as EQ_ID_VAL_LIST asks
abbrev pub is_one_of : Value → List ℕ → Value
is_one_of answer numbers = is_in numbers (as_number answer)

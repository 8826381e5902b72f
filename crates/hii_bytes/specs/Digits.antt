-- Numbers as digits (own rule).
use Rattle.std.specs.Prelude.{◌≡◌, ℕ, ◌<◌, ◌≤◌, ◌&&◌, nat_lt, nat_le, if◌then◌else◌, List, length, Option, Some, None}
use Rattle.std.specs.Char.{is_digit}
use Rattle.std.specs.List.{list_all}
use Rattle.std.specs.Str.Parse.{IsNumeral, digits_value}

-- One digit or more of a radix, `most` at most, that write this number, which is below a limit. A letter counts in
-- either case.
pub record IsNumber (radix most limit : ℕ) (text : List ℕ) (n : ℕ) : Type 0 where
  pub digits : IsNumeral radix text
  pub few : length text ≤ most
  pub value : digits_value radix text ≡ n
  pub small : n < limit

-- the number of the text as in `IsNumber`, where it is one
abbrev pub number_below : ℕ → ℕ → ℕ → List ℕ → Option ℕ
number_below limit radix most text =
    if nat_lt 0 (length text)
    && (list_all (λ byte. is_digit byte radix) text
    && (nat_le (length text) most && nat_lt (digits_value radix text) limit))
    then Some (digits_value radix text) else None

-- Ids of questions and of stores, as they are given (own rule).
use Rattle.std.specs.Prelude.{ℕ, ◌&&◌, nat_lt, if◌then◌else◌, List, length, take, drop, Option, Some, None, codes}
use Rattle.std.specs.Char.{is_digit}
use Rattle.std.specs.List.{list_all}
use Rattle.std.specs.Str.{bytes_eq}
use Rattle.std.specs.Str.Parse.{digits_value, without_leading_plus}

-- the number below 65536 that digits of a radix write, one or more
abbrev pub small_number : ℕ → List ℕ → Option ℕ
small_number radix digits =
    if nat_lt 0 (length digits)
    && (list_all (λ digit. is_digit digit radix) digits && nat_lt (digits_value radix digits) 65536)
    then Some (digits_value radix digits) else None

-- hex digits of either case behind `0x`; else decimal digits, a plus before them or not
abbrev pub id_in : List ℕ → Option ℕ
id_in text =
    if bytes_eq (take 2 text) (codes "0x") then small_number 16 (drop 2 text)
    else small_number 10 (without_leading_plus text)

-- What the code reads a part of a configuration text as.
use Rattle.std.specs.Prelude.{ℕ, zero, suc, ◌-◌, ◌*◌, ◌/◌, ◌%◌, ◌==◌, ◌&&◌, if◌then◌else◌, Bool, List, [], ◌∷◌, length, take, drop, Option, Some, None, option_map}
use Rattle.std.specs.Char.{is_digit}
use Rattle.std.specs.List.{list_all}
use Rattle.std.specs.Str.{bytes_eq}
use Rattle.std.specs.Str.Parse.{digits_value}
use Rattle.hii_bytes.specs.Digits.{number_below}

-- what stands behind a key, where the part begins with it
abbrev pub body_in : List ℕ → List ℕ → Option (List ℕ)
body_in key part =
    if bytes_eq (take (length key) part) key then Some (drop (length key) part) else None

-- the same of the first part, with the parts behind it
abbrev pub body_first : List ℕ → List (List ℕ) → Option (List ℕ × List (List ℕ))
body_first key [] = None
body_first key (part ∷ parts) = option_map (λ body. (body, parts)) (body_in key part)

abbrev pub offset_in : List ℕ → Option ℕ
offset_in text = number_below 65536 16 8 text

-- the number, where it is not 0
abbrev pub positive : Option ℕ → Option ℕ
positive None = None
positive (Some n) = if n == 0 then None else Some n

abbrev pub width_in : List ℕ → Option ℕ
width_in text = positive (number_below 65536 16 8 text)

abbrev pub are_hex : List ℕ → Bool
are_hex text = list_all (λ byte. is_digit byte 16) text

-- whether the digits before the last `2 * width` are all 0
abbrev pub fits_width : ℕ → List ℕ → Bool
fits_width width digits = list_all (λ digit. digit == 48) (take (length digits - 2 * width) digits)

-- whether the text is whole groups
abbrev pub is_grouped : ℕ → List ℕ → Bool
is_grouped size text = are_hex text && length text % size == 0

abbrev pub groups_from : ℕ → ℕ → List ℕ → List ℕ
groups_from zero size text = []
groups_from (suc count) size text = digits_value 16 (take size text) ∷ groups_from count size (drop size text)

-- the numbers of the groups
abbrev pub group_numbers : ℕ → List ℕ → List ℕ
group_numbers size text = groups_from (length text / size) size text

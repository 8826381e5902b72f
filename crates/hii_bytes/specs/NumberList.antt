-- Lists of numbers as a text (own rule).
use Rattle.std.specs.Prelude.{◌≡◌, ℕ, ◌==◌, ◌^◌, Bool, List, [], ◌∷◌, map, is_some}
use Rattle.std.specs.List.{AllZip, join_with_byte, list_all, slice_split}
use Rattle.std.specs.Str.Parse.{digits_value}
use Rattle.hii_bytes.specs.Digits.{IsNumber, number_below}

-- a number of a list: 1 to 20 decimal digits that write it, below 2^64
abbrev pub IsElement : List ℕ → ℕ → Type 0
IsElement text n = IsNumber 10 20 (2 ^ 64) text n

-- The text is these numbers with a comma between. No numbers are the empty text.
abbrev pub IsNumberList : List ℕ → List ℕ → Type 0
IsNumberList text numbers =
    (elements : List (List ℕ)) × (text ≡ join_with_byte 44 elements)
    × AllZip IsElement elements numbers

-- the parts of a text between its commas, none of the empty text
abbrev pub elements_of : List ℕ → List (List ℕ)
elements_of [] = []
elements_of (b ∷ text) = slice_split (λ byte. byte == 44) (b ∷ text)

-- the values of the digits between the commas
abbrev pub numbers_of : List ℕ → List ℕ
numbers_of text = map (digits_value 10) (elements_of text)

-- The text is a list of numbers, those that `numbers_of` reads.
abbrev pub IsList : List ℕ → Type 0
IsList text = IsNumberList text (numbers_of text)

-- whether the text is a number of a list
abbrev pub is_element : List ℕ → Bool
is_element text = is_some (number_below (2 ^ 64) 10 20 text)

-- `IsList` as a test of the text. A law says that they are the same.
abbrev pub is_number_list : List ℕ → Bool
is_number_list text = list_all is_element (elements_of text)

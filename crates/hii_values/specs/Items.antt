-- Fields of several items: numbers of some bytes each, the lowest byte first, and zeros behind them (UEFI 2.8, 33.3.8.3,
-- EFI_IFR_STRING and EFI_IFR_ORDERED_LIST; that the first zero ends them is an own rule).
use Rattle.std.specs.Prelude.{ℕ, zero, suc, ◌-◌, ◌*◌, ◌/◌, Bool, ◌==◌, not, List, [], ◌∷◌, ◌++◌, length, take, drop, replicate}
use Rattle.std.specs.List.{flat_map, take_while}
use Rattle.byteorder.specs.Endian.{little_number, little_bytes}

-- this many numbers of `width` bytes each
abbrev pub numbers : ℕ → ℕ → List ℕ → List ℕ
numbers zero width bytes = []
numbers (suc n) width bytes = little_number width bytes ∷ numbers n width (drop width bytes)

-- the numbers of `width` bytes each that fill some bytes; a part of one at the end is left off
abbrev pub numbers_in : ℕ → List ℕ → List ℕ
numbers_in width bytes = numbers (length bytes / width) width bytes

abbrev pub is_item : ℕ → Bool
is_item n = not (n == 0)

-- the items: the numbers before the first that is 0
abbrev pub items_in : ℕ → List ℕ → List ℕ
items_in width bytes = take_while is_item (numbers_in width bytes)

-- the bytes of the items
abbrev pub bytes_of_items : ℕ → List ℕ → List ℕ
bytes_of_items width bytes = take (length (items_in width bytes) * width) bytes

-- the bytes of numbers of `width` bytes each
abbrev pub spelled : ℕ → List ℕ → List ℕ
spelled width items = flat_map (little_bytes width) items

-- bytes with zeros behind them, `size` in all
abbrev pub filled : ℕ → List ℕ → List ℕ
filled size bytes = bytes ++ replicate (size - length bytes) 0

-- Numbers and hex digits in configuration texts (UEFI 2.8, 34.2.1 String Grammar; the limits are an own rule). A letter
-- counts in either case.
use Rattle.std.specs.Prelude.{◌≡◌, ℕ, ◌≤◌, true, List, [], ◌∷◌, ◌++◌, length}
use Rattle.std.specs.Str.Parse.{AllDigits, IsNumeral, digits_value}
use Rattle.hii_bytes.specs.Digits.{IsNumber}
use Rattle.config_text.specs.code.PartReading.{fits_width}

-- an offset: 1 to 8 hex digits, at most FFFF
abbrev pub IsOffset : List ℕ → ℕ → Type 0
IsOffset text n = IsNumber 16 8 65536 text n

-- a width: the same, and at least 1
abbrev pub IsWidth : List ℕ → ℕ → Type 0
IsWidth text n = IsNumber 16 8 65536 text n × (1 ≤ n)

-- the digits of a value: hex digits, one or more, all 0 before the last `2 * width`
abbrev pub AreValueDigits : ℕ → List ℕ → Type 0
AreValueDigits width digits = IsNumeral 16 digits × (fits_width width digits ≡ true)

-- a group of `size` hex digits, which write this number
pub record IsGroup (size : ℕ) (group : List ℕ) (n : ℕ) : Type 0 where
  pub digits : AllDigits 16 group
  pub sized : length group ≡ size
  pub value : digits_value 16 group ≡ n

-- a group for each number, one behind the other
abbrev pub AreGroups : ℕ → List ℕ → List ℕ → Type 0
AreGroups size text [] = text ≡ []
AreGroups size text (n ∷ numbers) =
    (group rest : List ℕ) × (text ≡ group ++ rest) × IsGroup size group n × AreGroups size rest numbers

-- What the fields of questions hold (UEFI 2.8, 33.3.8.3, under the name of each kind of question; how wide the fields are is
-- an own rule).
use Rattle.std.specs.Prelude.{ℕ, ◌*◌, Bool, List}

pub data FieldType : Type 0 where
  -- EFI_IFR_CHECKBOX
  checkbox : FieldType
  -- EFI_IFR_NUMERIC: a number of `width` bytes, signed or not, from `minimum` to `maximum`
  numeric : (signed : Bool) (width minimum maximum : ℕ) → FieldType
  -- EFI_IFR_ONE_OF: a number of `width` bytes, the value of an option
  one_of : (width : ℕ) (values : List ℕ) → FieldType
  -- EFI_IFR_STRING and EFI_IFR_PASSWORD: from `minimum` to `maximum` characters
  text : (minimum maximum : ℕ) → FieldType
  -- EFI_IFR_ORDERED_LIST: at most `most` values of options, of `width` bytes each; `unique` where none may come twice,
  -- `some` where one must be there
  ordered_list : (width most : ℕ) (unique some : Bool) (values : List ℕ) → FieldType

-- how many bytes a field takes
abbrev pub size_of_type : FieldType → ℕ
size_of_type checkbox = 1
size_of_type (numeric signed width minimum maximum) = width
size_of_type (one_of width values) = width
size_of_type (text minimum maximum) = 2 * maximum
size_of_type (ordered_list width most unique some values) = most * width

-- Words for all chapters: numbers, choices and small texts, and the causes by which something is refused (own rule).
use Rattle.std.specs.Prelude.{ℕ, ◌-◌, ◌/◌, ◌%◌, ◌==◌, ◌&&◌, Bool, false, nat_lt, nat_le, if◌then◌else◌, Option, Some}
use Rattle.std.specs.Prelude.{None, List, [], ◌∷◌, ◌++◌, length, drop, replicate, codes, decimal}
use Rattle.std.specs.Char.{is_digit}
use Rattle.std.specs.Fmt.{digit_glyph}
use Rattle.std.specs.List.{list_any, list_all}
use Rattle.std.specs.Option.{option_or}
use Rattle.std.specs.Str.Parse.{digits_value}
use Rattle.byteorder.specs.Endian.{little_number}
use Prim.Native.String.{String}

-- ---- numbers and choices

-- the number in `width` bytes from an offset on, the lowest byte first (UEFI 2.8, 1.8.1)
unfoldable pub number_in : List ℕ → ℕ → ℕ → ℕ
number_in bytes offset width = little_number width (drop offset bytes)

abbrev pub is_among : ℕ → List ℕ → Bool
is_among n ns = list_any (λ m. m == n) ns

abbrev pub first : {X : Type 0} → List X → Option X
first [] = None
first (x ∷ xs) = Some x

abbrev pub last : {X : Type 0} → List X → Option X
last [] = None
last (x ∷ xs) = option_or (last xs) (Some x)

-- Something is there, and a test holds of it.
abbrev pub is_some_and : {X : Type 0} → (X → Bool) → Option X → Bool
is_some_and test None = false
is_some_and test (Some x) = test x

-- the number that a text of one to `most` digits of a radix writes, where it is below a limit
abbrev pub number_below : ℕ → ℕ → ℕ → List ℕ → Option ℕ
number_below limit radix most text =
    if nat_lt 0 (length text) && nat_le (length text) most && list_all (λ byte. is_digit byte radix) text
    && nat_lt (digits_value radix text) limit then Some (digits_value radix text) else None

-- ---- small texts

-- a text behind as many spaces as make it this wide
abbrev pub right_aligned : ℕ → List ℕ → List ℕ
right_aligned width text = replicate (width - length text) 32 ++ text

-- a byte in two lower-case hex digits, and the lowest 32 bits of a place in eight
abbrev pub hex_of : ℕ → List ℕ
hex_of byte = digit_glyph false (byte / 16) ∷ digit_glyph false (byte % 16) ∷ []

abbrev pub place_text : ℕ → List ℕ
place_text place =
    hex_of (place / 0x1000000 % 256) ++ hex_of (place / 0x10000 % 256) ++ hex_of (place / 0x100 % 256)
    ++ hex_of (place % 256)

-- ---- causes

pub data Cause : Type 0 where
  ListShort ListLength PackageLength NoEnd AfterEnd NoForms StringHeader StringBlock StringText LanguageText : Cause
  OpLength EndExtra ScopeOpen TooDeep NotFormSet AfterFormSet OpOutside OpSize Misplaced ScopeBit ExprShape : Cause
  ExprDepth DuplicateForm DuplicateQuestion DuplicateVarstore UnknownVarstore FieldOutside OptionRange : Cause
  MixedOptions NoForm RuleTooLarge StoreMagic StoreCount StoreId StoreSize StoreShort StoreTrailing : Cause
  StoreFormSet OutOfMemory BadCommand LineTooLong ScriptTooLong FileTooLong : Cause
  BadHeader BadElement BadNumber ValueWidth : Cause

-- the number and the name of a cause in answers
abbrev pub number_and_name : Cause → ℕ × String
number_and_name ListShort = (1, "ListShort")
number_and_name ListLength = (2, "ListLength")
number_and_name PackageLength = (3, "PackageLength")
number_and_name NoEnd = (4, "NoEnd")
number_and_name AfterEnd = (5, "AfterEnd")
number_and_name NoForms = (6, "NoForms")
number_and_name StringHeader = (7, "StringHeader")
number_and_name StringBlock = (8, "StringBlock")
number_and_name StringText = (9, "StringText")
number_and_name LanguageText = (10, "LanguageText")
number_and_name OpLength = (20, "OpLength")
number_and_name EndExtra = (21, "EndExtra")
number_and_name ScopeOpen = (22, "ScopeOpen")
number_and_name TooDeep = (23, "TooDeep")
number_and_name NotFormSet = (24, "NotFormSet")
number_and_name AfterFormSet = (25, "AfterFormSet")
number_and_name OpOutside = (26, "OpOutside")
number_and_name OpSize = (27, "OpSize")
number_and_name Misplaced = (28, "Misplaced")
number_and_name ScopeBit = (29, "ScopeBit")
number_and_name ExprShape = (30, "ExprShape")
number_and_name ExprDepth = (31, "ExprDepth")
number_and_name DuplicateForm = (32, "DuplicateForm")
number_and_name DuplicateQuestion = (33, "DuplicateQuestion")
number_and_name DuplicateVarstore = (34, "DuplicateVarstore")
number_and_name UnknownVarstore = (35, "UnknownVarstore")
number_and_name FieldOutside = (36, "FieldOutside")
number_and_name OptionRange = (37, "OptionRange")
number_and_name MixedOptions = (38, "MixedOptions")
number_and_name NoForm = (39, "NoForm")
number_and_name RuleTooLarge = (40, "RuleTooLarge")
number_and_name StoreMagic = (50, "StoreMagic")
number_and_name StoreCount = (51, "StoreCount")
number_and_name StoreId = (52, "StoreId")
number_and_name StoreSize = (53, "StoreSize")
number_and_name StoreShort = (54, "StoreShort")
number_and_name StoreTrailing = (55, "StoreTrailing")
number_and_name StoreFormSet = (56, "StoreFormSet")
number_and_name OutOfMemory = (60, "OutOfMemory")
number_and_name BadCommand = (70, "BadCommand")
number_and_name LineTooLong = (71, "LineTooLong")
number_and_name ScriptTooLong = (72, "ScriptTooLong")
number_and_name FileTooLong = (73, "FileTooLong")
number_and_name BadHeader = (80, "BadHeader")
number_and_name BadElement = (81, "BadElement")
number_and_name BadNumber = (82, "BadNumber")
number_and_name ValueWidth = (83, "ValueWidth")

abbrev pub cause_text : Cause → List ℕ
cause_text cause =
    codes "REFUSED " ++ decimal (number_and_name cause).0 ++ codes " " ++ codes (number_and_name cause).1

-- the line by which something is refused, without a place and with one
abbrev pub refused_text : Cause → List ℕ
refused_text cause = cause_text cause ++ codes "\n"

abbrev pub refused_at_text : Cause → ℕ → List ℕ
refused_at_text cause place = cause_text cause ++ codes " at " ++ place_text place ++ codes "\n"

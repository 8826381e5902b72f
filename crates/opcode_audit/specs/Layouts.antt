-- The fields of opcodes by their numbers, and what each holds (UEFI 2.8, 33.3.8.3 Opcode Reference, with the names there).
use Rattle.std.specs.Prelude.{ℕ, ◌==◌, if◌then◌else◌, Bool, Option, Some, None, option_map, unwrap_or, List, [], ◌∷◌, ◌++◌, map, codes}
use Rattle.std.specs.List.{list_any}
use Rattle.std.specs.Option.{option_or}
use Prim.Native.String.{String}
use lib.Text.{eqt}
use Rattle.browser_rules.specs.Opcodes.{Layout, QUESTION_HEADER, row_of}

-- What a field is: a number, told in decimal or in hex digits; a string id; a GUID; or of all bytes behind the fields before it these, a
-- name up to its NUL, or so many numbers of two bytes.
pub data Kind : Type 0 where
  in_decimal in_hex a_text a_guid the_rest to_nul : Kind
  listed_so_many : ℕ → Kind

pub record Field : Type 0 where
  pub name : List ℕ
  -- in bytes, the least of one that takes all bytes
  pub width : ℕ
  pub kind : Kind

-- ---- kinds, by the names of fields

abbrev pub texts : List String
texts =
    "Prompt" ∷ "Help" ∷ "FormSetTitle" ∷ "FormTitle" ∷ "TextTwo" ∷ "QuestionConfig" ∷ "DevicePath" ∷ "Option"
    ∷ "DefaultName" ∷ "Error" ∷ "Warning" ∷ "StringId" ∷ []

abbrev pub guids : List String
guids = "Guid" ∷ "FormSetId" ∷ "RefreshEventGroupId" ∷ "Permissions" ∷ "SyntaxType" ∷ []

abbrev pub bits : List String
bits = "Flags" ∷ "QuestionFlags" ∷ "VarOffset" ∷ "Attributes" ∷ "VarStoreInfo" ∷ []

abbrev pub is_in : List String → String → Bool
is_in names name = list_any (eqt name) names

abbrev pub kind_of : String → Kind
kind_of name =
    if is_in texts name then a_text
    else (if is_in guids name then a_guid
    else (if is_in bits name then in_hex
    else in_decimal))

-- ---- fields

-- Beside those of the rows of opcodes, which say what is needed of a list that is browsed, these are told.
abbrev pub further : List (ℕ × Layout)
further =
    (0x04, ("Id", 2) ∷ [])  -- IMAGE
    ∷ (0x0c, QUESTION_HEADER ++ ("QuestionConfig", 2) ∷ [])  -- ACTION
    ∷ (0x0f, QUESTION_HEADER ++ ("FormId", 2) ∷ ("RefQuestionId", 2) ∷ ("FormSetId", 16) ∷ ("DevicePath", 2) ∷ [])  -- REF
    ∷ (0x1d, ("RefreshInterval", 1) ∷ [])  -- REFRESH
    ∷ (0x1f, ("Id", 2) ∷ [])  -- ANIMATION
    ∷ (0x27, ("DevicePath", 2) ∷ [])  -- VARSTORE_DEVICE
    ∷ (0x2b, ("VarStoreId", 2) ∷ ("VarStoreInfo", 2) ∷ ("VarStoreType", 1) ∷ [])  -- GET
    ∷ (0x2c, ("VarStoreId", 2) ∷ ("VarStoreInfo", 2) ∷ ("VarStoreType", 1) ∷ [])  -- SET
    ∷ (0x49, ("Format", 1) ∷ [])  -- TO_STRING
    ∷ (0x4c, ("Format", 1) ∷ [])  -- FIND
    ∷ (0x4e, ("StringId", 2) ∷ [])  -- STRING_REF1
    ∷ (0x51, ("DevicePath", 2) ∷ ("Guid", 16) ∷ [])  -- QUESTION_REF3
    ∷ (0x59, ("Flags", 1) ∷ [])  -- SPAN
    ∷ (0x5d, ("FormId", 2) ∷ [])  -- FORM_MAP
    ∷ (0x5f, ("Guid", 16) ∷ [])  -- GUID
    ∷ (0x60, ("Permissions", 16) ∷ [])  -- SECURITY
    ∷ (0x62, ("RefreshEventGroupId", 16) ∷ [])  -- REFRESH_ID
    ∷ (0x64, ("SyntaxType", 16) ∷ [])  -- MATCH2
    ∷ []

abbrev pub layout_in : List (ℕ × Layout) → ℕ → Option Layout
layout_in [] code = None
layout_in (entry ∷ more) code = if entry.0 == code then Some entry.1 else layout_in more code

abbrev pub layout_of : ℕ → Layout
layout_of code =
    unwrap_or (option_or (layout_in further code) (option_map (λ r. r.layout) (row_of code))) []

abbrev pub field_of : String × ℕ → Field
field_of part = record { name = codes part.0; width = part.1; kind = kind_of part.0 }

-- the fields of the opcodes of a number, one behind the other, from the third byte on
abbrev pub fields_of : ℕ → List Field
fields_of code = map field_of (layout_of code)

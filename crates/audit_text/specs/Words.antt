-- The words for opcodes and for attributes.
use Rattle.std.specs.Prelude.{ℕ, Bool, if◌then◌else◌, List, [], ◌∷◌, ◌++◌, codes, slice_index_or}
use Rattle.ifr_opcodes.specs.Fields.{has_flag}
use Rattle.audit_text.specs.Texts.{joined}

-- The names of opcodes by their numbers, from 0x00 on, which has none (UEFI 2.8, 33.3.8.3 Opcode Reference, without EFI_IFR_ and
-- _OP).
abbrev pub opcode_names : List (List ℕ)
opcode_names =
    [] ∷ codes "FORM" ∷ codes "SUBTITLE" ∷ codes "TEXT" ∷ codes "IMAGE" ∷ codes "ONE_OF" ∷ codes "CHECKBOX"
    ∷ codes "NUMERIC" ∷ codes "PASSWORD" ∷ codes "ONE_OF_OPTION" ∷ codes "SUPPRESS_IF" ∷ codes "LOCKED"
    ∷ codes "ACTION" ∷ codes "RESET_BUTTON" ∷ codes "FORM_SET" ∷ codes "REF" ∷ codes "NO_SUBMIT_IF"
    ∷ codes "INCONSISTENT_IF" ∷ codes "EQ_ID_VAL" ∷ codes "EQ_ID_ID" ∷ codes "EQ_ID_VAL_LIST" ∷ codes "AND"
    ∷ codes "OR" ∷ codes "NOT" ∷ codes "RULE" ∷ codes "GRAY_OUT_IF" ∷ codes "DATE" ∷ codes "TIME"
    ∷ codes "STRING" ∷ codes "REFRESH" ∷ codes "DISABLE_IF" ∷ codes "ANIMATION" ∷ codes "TO_LOWER"
    ∷ codes "TO_UPPER" ∷ codes "MAP" ∷ codes "ORDERED_LIST" ∷ codes "VARSTORE" ∷ codes "VARSTORE_NAME_VALUE"
    ∷ codes "VARSTORE_EFI" ∷ codes "VARSTORE_DEVICE" ∷ codes "VERSION" ∷ codes "END" ∷ codes "MATCH"
    ∷ codes "GET" ∷ codes "SET" ∷ codes "READ" ∷ codes "WRITE" ∷ codes "EQUAL" ∷ codes "NOT_EQUAL"
    ∷ codes "GREATER_THAN" ∷ codes "GREATER_EQUAL" ∷ codes "LESS_THAN" ∷ codes "LESS_EQUAL"
    ∷ codes "BITWISE_AND" ∷ codes "BITWISE_OR" ∷ codes "BITWISE_NOT" ∷ codes "SHIFT_LEFT"
    ∷ codes "SHIFT_RIGHT" ∷ codes "ADD" ∷ codes "SUBTRACT" ∷ codes "MULTIPLY" ∷ codes "DIVIDE"
    ∷ codes "MODULO" ∷ codes "RULE_REF" ∷ codes "QUESTION_REF1" ∷ codes "QUESTION_REF2" ∷ codes "UINT8"
    ∷ codes "UINT16" ∷ codes "UINT32" ∷ codes "UINT64" ∷ codes "TRUE" ∷ codes "FALSE" ∷ codes "TO_UINT"
    ∷ codes "TO_STRING" ∷ codes "TO_BOOLEAN" ∷ codes "MID" ∷ codes "FIND" ∷ codes "TOKEN"
    ∷ codes "STRING_REF1" ∷ codes "STRING_REF2" ∷ codes "CONDITIONAL" ∷ codes "QUESTION_REF3" ∷ codes "ZERO"
    ∷ codes "ONE" ∷ codes "ONES" ∷ codes "UNDEFINED" ∷ codes "LENGTH" ∷ codes "DUP" ∷ codes "THIS"
    ∷ codes "SPAN" ∷ codes "VALUE" ∷ codes "DEFAULT" ∷ codes "DEFAULTSTORE" ∷ codes "FORM_MAP"
    ∷ codes "CATENATE" ∷ codes "GUID" ∷ codes "SECURITY" ∷ codes "MODAL_TAG" ∷ codes "REFRESH_ID"
    ∷ codes "WARNING_IF" ∷ codes "MATCH2" ∷ []

-- the name of a number, or no text
abbrev pub opcode_name : ℕ → List ℕ
opcode_name code = slice_index_or opcode_names code []

-- a word alone, where something holds
abbrev pub word_where : Bool → List ℕ → List (List ℕ)
word_where holds word = if holds then word ∷ [] else []

-- The attributes of a variable in words (UEFI 2.8, 8.2 Variable Services, GetVariable): EFI_VARIABLE_NON_VOLATILE,
-- EFI_VARIABLE_BOOTSERVICE_ACCESS and EFI_VARIABLE_RUNTIME_ACCESS.
abbrev pub attribute_words : ℕ → List (List ℕ)
attribute_words attributes =
    word_where (has_flag attributes 0x01) (codes "NV")
    ++ word_where (has_flag attributes 0x02) (codes "BS")
    ++ word_where (has_flag attributes 0x04) (codes "RT")

abbrev pub attributes_text : ℕ → List ℕ
attributes_text attributes = joined (codes "+") (attribute_words attributes)

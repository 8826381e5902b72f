-- The fields of the operators of expressions (UEFI 2.8, 33.3.8.3 Opcode Reference, under the name of each).
use Rattle.std.specs.Prelude.{ℕ, ◌+◌, ◌*◌, ◌==◌, if◌then◌else◌, List, [], ◌∷◌, slice_range}
use Rattle.browser_rules.specs.Opcodes.{field, EQ_ID_ID, EQ_ID_VAL, EQ_ID_VAL_LIST, QUESTION_REF1, RULE_REF}
use Rattle.hii_bytes.specs.Numbers.{number_in}
use Rattle.ifr_opcodes.specs.declared.codes.TheConstants.{UINT8, UINT16, UINT32, UINT64, TRUE, FALSE, ZERO, ONE, ONES, UNDEFINED}
use Rattle.ifr_opcodes.specs.Opcode.{number}

-- EFI_IFR_EQ_ID_VAL
abbrev pub eq_id_val_question : List ℕ → ℕ
eq_id_val_question op = field EQ_ID_VAL "QuestionId" op

abbrev pub eq_id_val_value : List ℕ → ℕ
eq_id_val_value op = field EQ_ID_VAL "Value" op

-- EFI_IFR_EQ_ID_ID
abbrev pub eq_id_id_first : List ℕ → ℕ
eq_id_id_first op = field EQ_ID_ID "QuestionId1" op

abbrev pub eq_id_id_second : List ℕ → ℕ
eq_id_id_second op = field EQ_ID_ID "QuestionId2" op

-- EFI_IFR_EQ_ID_VAL_LIST; its list is numbers of two bytes each
abbrev pub eq_id_val_list_question : List ℕ → ℕ
eq_id_val_list_question op = field EQ_ID_VAL_LIST "QuestionId" op

abbrev pub eq_id_val_list_count : List ℕ → ℕ
eq_id_val_list_count op = field EQ_ID_VAL_LIST "ListLength" op

abbrev pub pairs : List ℕ → List ℕ
pairs (low ∷ high ∷ rest) = (low + 256 * high) ∷ pairs rest
pairs _ = []

abbrev pub eq_id_val_list_values : List ℕ → List ℕ
eq_id_val_list_values op = pairs (slice_range op 6 (6 + 2 * eq_id_val_list_count op))

-- EFI_IFR_QUESTION_REF1
abbrev pub question_ref_question : List ℕ → ℕ
question_ref_question op = field QUESTION_REF1 "QuestionId" op

-- EFI_IFR_RULE_REF
abbrev pub rule_ref_rule : List ℕ → ℕ
rule_ref_rule op = field RULE_REF "RuleId" op

-- the operators that are their own value: EFI_IFR_TRUE and the like
abbrev pub constants : List ℕ
constants = TRUE ∷ FALSE ∷ ZERO ∷ ONE ∷ ONES ∷ UNDEFINED ∷ []

-- the operators that hold a number: EFI_IFR_UINT8, EFI_IFR_UINT16, EFI_IFR_UINT32 and EFI_IFR_UINT64
abbrev pub uints : List ℕ
uints = UINT8 ∷ UINT16 ∷ UINT32 ∷ UINT64 ∷ []

abbrev pub uint_width : ℕ → ℕ
uint_width code =
    if code == UINT8 then 1 else (if code == UINT16 then 2 else (if code == UINT32 then 4 else 8))

abbrev pub uint_value : List ℕ → ℕ
uint_value op = number_in op 2 (uint_width (number op))

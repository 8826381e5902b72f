-- How many bytes the code asks for of each opcode, and its operators by how many operands they take.
use Rattle.std.specs.Prelude.{ℕ, ◌+◌, ◌*◌, ◌==◌, ◌||◌, nat_lt, if◌then◌else◌, Option, Some, None, List, [], ◌∷◌, length}
use Rattle.browser_rules.specs.Opcodes.{Row, rows, fields_end, number, number_width, type_width}
use Rattle.browser_rules.specs.Words.{is_among}
use Rattle.ifr_opcodes.specs.declared.codes.TheConstants.{ONE_OF, NUMERIC, ONE_OF_OPTION, EQ_ID_VAL, EQ_ID_ID, EQ_ID_VAL_LIST, AND, OR, NOT, VARSTORE, VARSTORE_EFI, EQUAL, NOT_EQUAL, GREATER_THAN, GREATER_EQUAL, LESS_THAN, LESS_EQUAL, BITWISE_AND, BITWISE_OR, BITWISE_NOT, SHIFT_LEFT, SHIFT_RIGHT, ADD, SUBTRACT, MULTIPLY, DIVIDE, MODULO, RULE_REF, QUESTION_REF1, UINT8, UINT16, UINT32, UINT64, THIS, DEFAULT}
use Rattle.ifr_opcodes.specs.ExpressionFields.{constants, eq_id_val_list_count}
use Rattle.ifr_opcodes.specs.OptionFields.{option_kind, default_kind}
use Rattle.ifr_opcodes.specs.QuestionFields.{numeric_flags}
use Rattle.ifr_opcodes.specs.StoreFields.{varstore_name, varstore_efi_name}

-- the operators that take no operand, one, and two
abbrev pub without_operands : List ℕ
without_operands =
    EQ_ID_VAL ∷ EQ_ID_ID ∷ EQ_ID_VAL_LIST ∷ RULE_REF ∷ QUESTION_REF1 ∷ UINT8 ∷ UINT16 ∷ UINT32
    ∷ UINT64 ∷ THIS ∷ constants

abbrev pub with_one_operand : List ℕ
with_one_operand = NOT ∷ BITWISE_NOT ∷ []

abbrev pub with_two_operands : List ℕ
with_two_operands =
    AND ∷ OR ∷ EQUAL ∷ NOT_EQUAL ∷ GREATER_THAN ∷ GREATER_EQUAL ∷ LESS_THAN ∷ LESS_EQUAL
    ∷ BITWISE_AND ∷ BITWISE_OR ∷ SHIFT_LEFT ∷ SHIFT_RIGHT ∷ ADD ∷ SUBTRACT ∷ MULTIPLY ∷ DIVIDE
    ∷ MODULO ∷ []

abbrev pub operands_among : ℕ → Option ℕ
operands_among code =
    if is_among code without_operands then Some 0
    else (if is_among code with_one_operand then Some 1
    else (if is_among code with_two_operands then Some 2
    else None))

-- how many bytes the fields of the opcode of a number take by its row among some, with the two in front of them; two where it
-- has no row
abbrev pub fields_in : List Row → ℕ → ℕ
fields_in [] code = 2
fields_in (r ∷ more) code = if r.number == code then fields_end r.layout else fields_in more code

abbrev pub fields_length : ℕ → ℕ
fields_length code = fields_in rows code

-- how many bytes an opcode of this number has at least: those of its fields with the two in front of them, and what stands
-- behind these; where the byte that tells how many that are is not there, those up to this byte
abbrev pub row_length : ℕ → List ℕ → ℕ
row_length code op =
    if code == VARSTORE then 23 + length (varstore_name op)
    else (if code == VARSTORE_EFI then 27 + length (varstore_efi_name op)
    else (if code == NUMERIC || code == ONE_OF
    then (if nat_lt (length op) 14 then 14 else 14 + 3 * number_width (numeric_flags op))
    else (if code == ONE_OF_OPTION
    then (if nat_lt (length op) 6 then 6 else 6 + type_width (option_kind op))
    else (if code == DEFAULT then (if nat_lt (length op) 5 then 5
    else 5 + type_width (default_kind op))
    else (if code == EQ_ID_VAL_LIST
    then (if nat_lt (length op) 6 then 6 else 6 + 2 * eq_id_val_list_count op)
    else fields_length code)))))

abbrev pub least_length : List ℕ → ℕ
least_length op = row_length (number op) op

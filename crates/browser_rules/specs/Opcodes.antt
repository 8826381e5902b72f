-- The opcodes of forms: one row for each, and nothing else that is said of it by its number (UEFI 2.8, 33.3.8.3 Opcode
-- Reference, each under EFI_IFR_ and its name, with the names of fields there). Which are known, what may stand where
-- and which Types options and defaults may have are own rules. So is that bytes behind those of a row are ignored.
use Rattle.std.specs.Prelude.{option_map, not, take, map, ℕ, ◌+◌, ◌*◌, ◌/◌, ◌%◌, ◌^◌, ◌-◌, Bool, true, false, ◌==◌}
use Rattle.std.specs.Prelude.{◌&&◌, ◌||◌, nat_lt, nat_le, if◌then◌else◌, Option, unwrap_or, bit_and, bit_or, List, []}
use Rattle.std.specs.Prelude.{◌∷◌, ◌++◌, length, slice_index, slice_get, drop}
use Rattle.std.specs.List.{list_any, find, before_first}
use Prim.Native.String.{String}
use lib.Text.{eqt}
use Rattle.browser_rules.specs.Words.{number_in, is_some_and}
use Rattle.browser_rules.specs.Values.{Value, undefined, boolean, natural, numbers, booleans, negated, are_equal}
use Rattle.browser_rules.specs.Values.{is_listed, are_same_number, wrapped, divided, shifted, Around, answer}

-- ---- what a row says

-- the fields behind the two bytes of the header, in their order: the name of each, and how many bytes it has
abbrev pub Layout : Type 0
Layout = List (String × ℕ)

-- what has to stand behind the fields: nothing; three numbers, as wide as Flags says; a value of the Type; ListLength
-- numbers of two bytes; a name and its NUL
pub data Tail : Type 0 where
  nothing three_numbers typed_value counted a_name : Tail

-- what an opcode is
pub data OpcodeKind : Type 0 where
  a_form_set a_form a_default_store a_store a_statement a_question an_option a_default a_value a_rule : OpcodeKind
  a_guard a_condition a_lock ignored an_operator : OpcodeKind
  deriving Discrete as same_kind

-- whether it has Scope: always; at will; never; at will, but not as an operand; exactly where its Type is OTHER (8)
pub data ScopeRule : Type 0 where
  always at_will never unless_operand with_type_other : ScopeRule

-- what may stand in its scope: what a form set holds; a form or subtitle; a TEXT or button; a question; a question with
-- options; a guard among options; an option; an operator; nothing. In a guard may stand what may stand around it.
pub data Class : Type 0 where
  of_form_set of_form of_text of_question of_choice of_options of_option of_expression of_nothing : Class
  deriving Discrete as same_class

-- what an operator makes of what is around it and its bytes; of one operand; of two, the left one first
pub data Sense : Type 0 where
  no_operator : Sense
  leaf : (Around → List ℕ → Value) → Sense
  one : (Value → Value) → Sense
  two : (Value → Value → Value) → Sense

pub record Row : Type 0 where
  pub number : ℕ
  pub layout : Layout
  pub tail : Tail
  pub kind : OpcodeKind
  pub scope : ScopeRule
  pub opens : Class
  -- for which of its bytes it is refused as if it were not known
  pub refused : List ℕ → Bool
  pub sense : Sense

-- ---- fields

-- where a field stands, in bytes from the opcode's first, and how many it has; where none has the name, where all end
abbrev pub span_from : ℕ → Layout → String → ℕ × ℕ
span_from at [] name = (at, 0)
span_from at (part ∷ layout) name =
    if eqt part.0 name then (at, part.1) else span_from (at + part.1) layout name

abbrev pub fields_end : Layout → ℕ
fields_end layout = (span_from 2 layout "").0

-- the number in a field, and its bytes
abbrev pub field_in : Layout → String → List ℕ → ℕ
field_in layout name op = number_in op (span_from 2 layout name).0 (span_from 2 layout name).1

abbrev pub bytes_in : Layout → String → List ℕ → List ℕ
bytes_in layout name op = take (span_from 2 layout name).1 (drop (span_from 2 layout name).0 op)

-- the name behind the fields, up to its NUL
abbrev pub name_behind : Layout → List ℕ → List ℕ
name_behind layout op = before_first (λ byte. byte == 0) (drop (fields_end layout) op)

-- how many bytes each number of a NUMERIC or ONE_OF has by its Flags (EFI_IFR_NUMERIC_SIZE)
abbrev pub number_width : ℕ → ℕ
number_width flags = 2 ^ bit_and flags 3

-- how many bytes a value of a Type has: from 0 on (EFI_IFR_TYPE_NUM_SIZE_8) four numbers, a Boolean, a time, a date, a
-- string id. Of the other Types none are asked for.
abbrev pub type_width : ℕ → ℕ
type_width kind = unwrap_or (slice_get (1 ∷ 2 ∷ 4 ∷ 8 ∷ 1 ∷ 3 ∷ 4 ∷ 2 ∷ []) kind) 0

abbrev pub has_scope : List ℕ → Bool
has_scope op = nat_le 128 (slice_index op 1)

-- the fields of all statements (33.3.8.2.3), of all questions (33.3.8.2.2), of those with Flags next; the text of an
-- error
abbrev pub STATEMENT_HEADER : Layout
STATEMENT_HEADER = ("Prompt", 2) ∷ ("Help", 2) ∷ []

abbrev pub QUESTION_HEADER : Layout
QUESTION_HEADER =
    STATEMENT_HEADER ++ ("QuestionId", 2) ∷ ("VarStoreId", 2) ∷ ("VarOffset", 2) ∷ ("QuestionFlags", 1) ∷ []

abbrev pub FLAGGED_QUESTION : Layout
FLAGGED_QUESTION = QUESTION_HEADER ++ ("Flags", 1) ∷ []

abbrev pub WITH_ERROR : Layout
WITH_ERROR = ("Error", 2) ∷ []

-- ---- the rows: of each opcode its number, its fields, what stands behind them, what it is, whether it has Scope, and
-- what may stand in that; of an operator its number, its fields and what it makes (33.2.5.7)

pub data Opcode : Type 0 where
  FORM_SET FORM DEFAULTSTORE VARSTORE VARSTORE_EFI VARSTORE_NAME_VALUE SUBTITLE TEXT RESET_BUTTON : Opcode
  CHECKBOX NUMERIC ONE_OF ORDERED_LIST STRING PASSWORD DATE TIME ACTION REF ONE_OF_OPTION DEFAULT VALUE : Opcode
  RULE SUPPRESS_IF GRAY_OUT_IF DISABLE_IF INCONSISTENT_IF NO_SUBMIT_IF WARNING_IF LOCKED : Opcode
  GUID IMAGE ANIMATION REFRESH REFRESH_ID MODAL_TAG : Opcode
  RULE_REF QUESTION_REF1 EQ_ID_VAL EQ_ID_ID EQ_ID_VAL_LIST THIS TRUE FALSE ZERO ONE ONES UNDEFINED : Opcode
  UINT8 UINT16 UINT32 UINT64 NOT BITWISE_NOT AND OR EQUAL NOT_EQUAL : Opcode
  GREATER_THAN GREATER_EQUAL LESS_THAN LESS_EQUAL BITWISE_AND BITWISE_OR SHIFT_LEFT SHIFT_RIGHT : Opcode
  ADD SUBTRACT MULTIPLY DIVIDE MODULO : Opcode

abbrev pub opcode : ℕ → Layout → Tail → OpcodeKind → ScopeRule → Class → Row
opcode number layout tail kind scope opens = record {
  number = number;
  layout = layout;
  tail = tail;
  kind = kind;
  scope = scope;
  opens = opens;
  refused = λ op. false;
  sense = no_operator;
}

abbrev pub refused_where : (List ℕ → Bool) → Row → Row
refused_where refused r = record r { refused = refused }

abbrev pub operator : ℕ → Layout → Tail → Sense → Row
operator number layout tail sense =
    record (opcode number layout tail an_operator unless_operand of_expression) { sense = sense }

-- an operator that holds a number; the numbers of two bytes that an EQ_ID_VAL_LIST holds
abbrev pub uint : ℕ → ℕ → Row
uint number bytes = operator number (("Value", bytes) ∷ []) nothing (leaf λ around op. natural (number_in op 2 bytes))

abbrev pub two_byte_numbers : List ℕ → List ℕ
two_byte_numbers (low ∷ high ∷ rest) = (low + 256 * high) ∷ two_byte_numbers rest
two_byte_numbers _ = []

abbrev pub listed_values : List ℕ → List ℕ
listed_values op = two_byte_numbers (take (2 * number_in op 4 2) (drop 6 op))

-- Refused as if they were not known: a VARSTORE_EFI of 24 bytes, which has no Size and no Name; an option whose value
-- is no number and no Boolean; a default of a Type behind REF (0C); a GUID with Scope, which would hold a vendor's
-- opcodes. How far the fields of a REF go is told by its length alone.
abbrev pub row : Opcode → Row
row FORM_SET =
    opcode 0x0e (("Guid", 16) ∷ ("FormSetTitle", 2) ∷ ("Help", 2) ∷ ("Flags", 1) ∷ [])
    nothing a_form_set always of_form_set
row FORM = opcode 0x01 (("FormId", 2) ∷ ("FormTitle", 2) ∷ []) nothing a_form always of_form
row DEFAULTSTORE = opcode 0x5c (("DefaultName", 2) ∷ ("DefaultId", 2) ∷ []) nothing a_default_store never of_nothing
row VARSTORE = opcode 0x24 (("Guid", 16) ∷ ("VarStoreId", 2) ∷ ("Size", 2) ∷ []) a_name a_store never of_nothing
row VARSTORE_EFI =
    refused_where (λ op. length op == 24)
    (opcode 0x26 (("VarStoreId", 2) ∷ ("Guid", 16) ∷ ("Attributes", 4) ∷ ("Size", 2) ∷ [])
    a_name a_store never of_nothing)
row VARSTORE_NAME_VALUE = opcode 0x25 (("VarStoreId", 2) ∷ ("Guid", 16) ∷ []) nothing a_store never of_nothing
row SUBTITLE = opcode 0x02 (STATEMENT_HEADER ++ ("Flags", 1) ∷ []) nothing a_statement at_will of_form
row TEXT = opcode 0x03 (STATEMENT_HEADER ++ ("TextTwo", 2) ∷ []) nothing a_statement at_will of_text
row RESET_BUTTON = opcode 0x0d (STATEMENT_HEADER ++ ("DefaultId", 2) ∷ []) nothing a_statement at_will of_text
row CHECKBOX = opcode 0x06 FLAGGED_QUESTION nothing a_question at_will of_question
row NUMERIC = opcode 0x07 FLAGGED_QUESTION three_numbers a_question at_will of_question
row ONE_OF = opcode 0x05 FLAGGED_QUESTION three_numbers a_question at_will of_choice
row ORDERED_LIST =
    opcode 0x23 (QUESTION_HEADER ++ ("MaxContainers", 1) ∷ ("Flags", 1) ∷ []) nothing a_question at_will of_choice
row STRING =
    opcode 0x1c (QUESTION_HEADER ++ ("MinSize", 1) ∷ ("MaxSize", 1) ∷ ("Flags", 1) ∷ [])
    nothing a_question at_will of_question
row PASSWORD =
    opcode 0x08 (QUESTION_HEADER ++ ("MinSize", 2) ∷ ("MaxSize", 2) ∷ []) nothing a_question at_will of_question
row DATE = opcode 0x1a FLAGGED_QUESTION nothing a_question at_will of_question
row TIME = opcode 0x1b FLAGGED_QUESTION nothing a_question at_will of_question
row ACTION = opcode 0x0c QUESTION_HEADER nothing a_question at_will of_question
row REF = opcode 0x0f QUESTION_HEADER nothing a_question at_will of_question
row ONE_OF_OPTION =
    refused_where (λ op. nat_le 6 (length op) && nat_lt 4 (slice_index op 5))
    (opcode 0x09 (("Option", 2) ∷ ("Flags", 1) ∷ ("Type", 1) ∷ []) typed_value an_option at_will of_option)
row DEFAULT =
    refused_where (λ op. nat_le 5 (length op) && nat_lt 0x0c (slice_index op 4))
    (opcode 0x5b (("DefaultId", 2) ∷ ("Type", 1) ∷ []) typed_value a_default with_type_other of_nothing)
row VALUE = opcode 0x5a [] nothing a_value always of_nothing
row RULE = opcode 0x18 (("RuleId", 1) ∷ []) nothing a_rule always of_nothing
row SUPPRESS_IF = opcode 0x0a [] nothing a_guard always of_nothing
row GRAY_OUT_IF = opcode 0x19 [] nothing a_guard always of_nothing
row DISABLE_IF = opcode 0x1e [] nothing a_guard always of_nothing
row INCONSISTENT_IF = opcode 0x11 WITH_ERROR nothing a_condition always of_nothing
row NO_SUBMIT_IF = opcode 0x10 WITH_ERROR nothing a_condition always of_nothing
row WARNING_IF = opcode 0x63 (("Warning", 2) ∷ ("TimeOut", 1) ∷ []) nothing a_condition always of_nothing
row LOCKED = opcode 0x0b [] nothing a_lock never of_nothing
row GUID = refused_where has_scope (opcode 0x5f [] nothing ignored never of_nothing)
row IMAGE = opcode 0x04 [] nothing ignored never of_nothing
row ANIMATION = opcode 0x1f [] nothing ignored never of_nothing
row REFRESH = opcode 0x1d [] nothing ignored never of_nothing
row REFRESH_ID = opcode 0x62 [] nothing ignored never of_nothing
row MODAL_TAG = opcode 0x61 [] nothing ignored never of_nothing
row RULE_REF = operator 0x3f (("RuleId", 1) ∷ []) nothing (leaf λ around op. around.rule (number_in op 2 1))
row QUESTION_REF1 = operator 0x40 (("QuestionId", 2) ∷ []) nothing (leaf λ around op. answer around (number_in op 2 2))
row EQ_ID_VAL =
    operator 0x12 (("QuestionId", 2) ∷ ("Value", 2) ∷ []) nothing
    (leaf λ around op. are_same_number (answer around (number_in op 2 2)) (natural (number_in op 4 2)))
row EQ_ID_ID =
    operator 0x13 (("QuestionId1", 2) ∷ ("QuestionId2", 2) ∷ []) nothing
    (leaf λ around op. are_same_number (answer around (number_in op 2 2)) (answer around (number_in op 4 2)))
row EQ_ID_VAL_LIST =
    operator 0x14 (("QuestionId", 2) ∷ ("ListLength", 2) ∷ []) counted
    (leaf λ around op. is_listed (listed_values op) (answer around (number_in op 2 2)))
row THIS = operator 0x58 [] nothing (leaf λ around op. answer around around.this)
row TRUE = operator 0x46 [] nothing (leaf λ around op. boolean true)
row FALSE = operator 0x47 [] nothing (leaf λ around op. boolean false)
row ZERO = operator 0x52 [] nothing (leaf λ around op. natural 0)
row ONE = operator 0x53 [] nothing (leaf λ around op. natural 1)
row ONES = operator 0x54 [] nothing (leaf λ around op. natural (2 ^ 64 - 1))
row UNDEFINED = operator 0x55 [] nothing (leaf λ around op. undefined)
row UINT8 = uint 0x42 1
row UINT16 = uint 0x43 2
row UINT32 = uint 0x44 4
row UINT64 = uint 0x45 8
row NOT = operator 0x17 [] nothing (one negated)
row BITWISE_NOT = operator 0x37 [] nothing (one λ v. numbers (λ x y. natural (2 ^ 64 - 1 - x)) v v)
row AND = operator 0x15 [] nothing (two (booleans λ a b. a && b))
row OR = operator 0x16 [] nothing (two (booleans λ a b. a || b))
row EQUAL = operator 0x2f [] nothing (two are_equal)
row NOT_EQUAL = operator 0x30 [] nothing (two λ left right. negated (are_equal left right))
row GREATER_THAN = operator 0x31 [] nothing (two (numbers λ x y. boolean (nat_lt y x)))
row GREATER_EQUAL = operator 0x32 [] nothing (two (numbers λ x y. boolean (nat_le y x)))
row LESS_THAN = operator 0x33 [] nothing (two (numbers λ x y. boolean (nat_lt x y)))
row LESS_EQUAL = operator 0x34 [] nothing (two (numbers λ x y. boolean (nat_le x y)))
row BITWISE_AND = operator 0x35 [] nothing (two (numbers λ x y. natural (bit_and x y)))
row BITWISE_OR = operator 0x36 [] nothing (two (numbers λ x y. natural (bit_or x y)))
row SHIFT_LEFT = operator 0x38 [] nothing (two (numbers (shifted λ x y. x * 2 ^ y)))
row SHIFT_RIGHT = operator 0x39 [] nothing (two (numbers (shifted λ x y. x / 2 ^ y)))
row ADD = operator 0x3a [] nothing (two (numbers λ x y. wrapped (x + y)))
row SUBTRACT = operator 0x3b [] nothing (two (numbers λ x y. wrapped (x + 2 ^ 64 - y)))
row MULTIPLY = operator 0x3c [] nothing (two (numbers λ x y. wrapped (x * y)))
row DIVIDE = operator 0x3d [] nothing (two (numbers (divided λ x y. x / y)))
row MODULO = operator 0x3e [] nothing (two (numbers (divided λ x y. x % y)))

-- ---- what the rows say of an opcode

abbrev pub rows : List Row
rows =
    map row
    (FORM_SET ∷ FORM ∷ DEFAULTSTORE ∷ VARSTORE ∷ VARSTORE_EFI ∷ VARSTORE_NAME_VALUE ∷ SUBTITLE ∷ TEXT ∷ RESET_BUTTON
    ∷ CHECKBOX ∷ NUMERIC ∷ ONE_OF ∷ ORDERED_LIST ∷ STRING ∷ PASSWORD ∷ DATE ∷ TIME ∷ ACTION ∷ REF ∷ ONE_OF_OPTION
    ∷ DEFAULT ∷ VALUE ∷ RULE ∷ SUPPRESS_IF ∷ GRAY_OUT_IF ∷ DISABLE_IF ∷ INCONSISTENT_IF ∷ NO_SUBMIT_IF ∷ WARNING_IF
    ∷ LOCKED ∷ GUID ∷ IMAGE ∷ ANIMATION ∷ REFRESH ∷ REFRESH_ID ∷ MODAL_TAG ∷ RULE_REF ∷ QUESTION_REF1 ∷ EQ_ID_VAL
    ∷ EQ_ID_ID ∷ EQ_ID_VAL_LIST ∷ THIS ∷ TRUE ∷ FALSE ∷ ZERO ∷ ONE ∷ ONES ∷ UNDEFINED ∷ UINT8 ∷ UINT16 ∷ UINT32
    ∷ UINT64 ∷ NOT ∷ BITWISE_NOT ∷ AND ∷ OR ∷ EQUAL ∷ NOT_EQUAL ∷ GREATER_THAN ∷ GREATER_EQUAL ∷ LESS_THAN
    ∷ LESS_EQUAL ∷ BITWISE_AND ∷ BITWISE_OR ∷ SHIFT_LEFT ∷ SHIFT_RIGHT ∷ ADD ∷ SUBTRACT ∷ MULTIPLY ∷ DIVIDE ∷ MODULO
    ∷ [])

abbrev pub number : List ℕ → ℕ
number op = slice_index op 0

unfoldable pub row_of : ℕ → Option Row
row_of code = find (λ r. r.number == code) rows

abbrev pub field : Opcode → String → List ℕ → ℕ
field o name op = field_in (row o).layout name op

-- whether an opcode is that of a row, and whether it is of a kind
abbrev pub is_the : Opcode → List ℕ → Bool
is_the o op = number op == (row o).number

abbrev pub so : {A : Type 0} → Dec A → Bool
so (yes a) = true
so (no f) = false

abbrev pub is_a : OpcodeKind → List ℕ → Bool
is_a kind op = is_some_and (λ r. so (same_kind kind r.kind)) (row_of (number op))

-- whether a scope begins with an expression, and whether with a VALUE, as that of a default of the Type OTHER (8)
abbrev pub wants_expression : List ℕ → Bool
wants_expression op = is_a a_guard op || is_a a_condition op || is_a a_rule op || is_a a_value op

abbrev pub wants_value : List ℕ → Bool
wants_value op = is_the DEFAULT op && nat_le 5 (length op) && field DEFAULT "Type" op == 8

-- An opcode is not known, or is refused as if it were not.
abbrev pub is_outside : List ℕ → Bool
is_outside op = not (is_some_and (λ r. not (r.refused op)) (row_of (number op)))

-- how many bytes an opcode has at least, if fewer than its fields those of these; for a name without NUL one too many
abbrev pub tail_length : Layout → Tail → List ℕ → ℕ
tail_length layout nothing op = 0
tail_length layout three_numbers op = 3 * number_width (field_in layout "Flags" op)
tail_length layout typed_value op = type_width (field_in layout "Type" op)
tail_length layout counted op = 2 * field_in layout "ListLength" op
tail_length layout a_name op = length (name_behind layout op) + 1

abbrev pub least_length : Row → List ℕ → ℕ
least_length r op =
    fields_end r.layout + (if nat_lt (length op) (fields_end r.layout) then 0 else tail_length r.layout r.tail op)

abbrev pub is_short : List ℕ → Bool
is_short op = is_some_and (λ r. nat_lt (length op) (least_length r op)) (row_of (number op))

-- in which scopes each kind may stand, but for what a scope begins with
abbrev pub classes_for : OpcodeKind → List Class
classes_for a_form_set = []
classes_for a_form = of_form_set ∷ []
classes_for a_default_store = of_form_set ∷ []
classes_for a_store = of_form_set ∷ []
classes_for a_statement = of_form ∷ []
classes_for a_question = of_form ∷ []
classes_for an_option = of_choice ∷ of_options ∷ []
classes_for a_default = of_question ∷ of_choice ∷ []
classes_for a_value = []
classes_for a_rule = of_form ∷ []
classes_for a_guard = of_form_set ∷ of_form ∷ of_choice ∷ of_options ∷ []
classes_for a_condition = of_question ∷ of_choice ∷ []
classes_for a_lock = of_form_set ∷ of_form ∷ of_text ∷ of_question ∷ of_choice ∷ of_options ∷ []
classes_for ignored = of_form_set ∷ of_form ∷ of_text ∷ of_question ∷ of_choice ∷ of_options ∷ of_option ∷ []
classes_for an_operator = of_expression ∷ []

abbrev pub admits : Class → ℕ → Bool
admits class code = is_some_and (λ r. list_any (λ c. so (same_class class c)) (classes_for r.kind)) (row_of code)

-- the class of a scope in one of a class: a guard admits what may stand around it, but among options nothing else that
-- a question has
abbrev pub opened_by : Class → OpcodeKind → Class → Class
opened_by of_choice a_guard opens = of_options
opened_by around a_guard opens = around
opened_by around kind opens = opens

abbrev pub class_inside : Class → ℕ → Class
class_inside around code = unwrap_or (option_map (λ r. opened_by around r.kind r.opens) (row_of code)) of_nothing

-- It has Scope and may not, or has none and must; as an operand, or not.
abbrev pub is_wrong_scope : ScopeRule → Bool → List ℕ → Bool
is_wrong_scope always is_operand op = not (has_scope op)
is_wrong_scope at_will is_operand op = false
is_wrong_scope never is_operand op = has_scope op
is_wrong_scope unless_operand is_operand op = is_operand && has_scope op
is_wrong_scope with_type_other is_operand op = if wants_value op then not (has_scope op) else has_scope op

-- The fields of statements and questions (UEFI 2.8, 33.3.8.3 Opcode Reference, under the name of each).
use Rattle.std.specs.Prelude.{ℕ, ◌+◌, ◌*◌, Bool, not, ◌==◌, ◌||◌, nat_lt, nat_le, if◌then◌else◌, Option, Some, None, List, length, slice_range, bit_and}
use Rattle.browser_rules.specs.Opcodes.{field, field_in, number_width, CHECKBOX, DATE, NUMERIC, ORDERED_LIST, PASSWORD, QUESTION_HEADER, RESET_BUTTON, STATEMENT_HEADER, STRING, SUBTITLE, TEXT, TIME}
use Rattle.hii_bytes.specs.Numbers.{number_in}
use Rattle.ifr_opcodes.specs.declared.numbers.Display.{Display}
use Rattle.ifr_opcodes.specs.declared.numbers.Display.TheVariants.{Signed, Unsigned, Hexadecimal}

-- whether a bit of flags is set
abbrev pub has_flag : ℕ → ℕ → Bool
has_flag flags flag = not (bit_and flags flag == 0)

-- the number of a field that only longer opcodes have
abbrev pub number_where : List ℕ → ℕ → ℕ → Option ℕ
number_where op at width =
    if nat_le (at + width) (length op) then Some (number_in op at width) else None

-- what every statement has (33.3.8.2.3 EFI_IFR_STATEMENT_HEADER)
abbrev pub statement_prompt : List ℕ → ℕ
statement_prompt op = field_in STATEMENT_HEADER "Prompt" op

abbrev pub statement_help : List ℕ → ℕ
statement_help op = field_in STATEMENT_HEADER "Help" op

-- EFI_IFR_SUBTITLE
abbrev pub subtitle_flags : List ℕ → ℕ
subtitle_flags op = field SUBTITLE "Flags" op

-- EFI_IFR_TEXT
abbrev pub text_second : List ℕ → ℕ
text_second op = field TEXT "TextTwo" op

-- EFI_IFR_RESET_BUTTON
abbrev pub reset_default : List ℕ → ℕ
reset_default op = field RESET_BUTTON "DefaultId" op

-- what every question has behind that of a statement (33.3.8.2.2 EFI_IFR_QUESTION_HEADER)
abbrev pub question_id : List ℕ → ℕ
question_id op = field_in QUESTION_HEADER "QuestionId" op

abbrev pub question_store : List ℕ → ℕ
question_store op = field_in QUESTION_HEADER "VarStoreId" op

abbrev pub question_offset : List ℕ → ℕ
question_offset op = field_in QUESTION_HEADER "VarOffset" op

abbrev pub question_flags : List ℕ → ℕ
question_flags op = field_in QUESTION_HEADER "QuestionFlags" op

-- EFI_IFR_FLAG_READ_ONLY
abbrev pub is_read_only : List ℕ → Bool
is_read_only op = has_flag (question_flags op) 0x01

-- EFI_IFR_CHECKBOX
abbrev pub checkbox_flags : List ℕ → ℕ
checkbox_flags op = field CHECKBOX "Flags" op

-- EFI_IFR_CHECKBOX_DEFAULT
abbrev pub is_default_checkbox : List ℕ → Bool
is_default_checkbox op = has_flag (checkbox_flags op) 0x01

-- EFI_IFR_CHECKBOX_DEFAULT_MFG
abbrev pub is_manufacturing_checkbox : List ℕ → Bool
is_manufacturing_checkbox op = has_flag (checkbox_flags op) 0x02

-- EFI_IFR_NUMERIC; the flags tell how many bytes each of its three numbers has
abbrev pub numeric_flags : List ℕ → ℕ
numeric_flags op = field NUMERIC "Flags" op

abbrev pub numeric_width : List ℕ → ℕ
numeric_width op = number_width (numeric_flags op)

-- how the number of a question is shown, by its flags (EFI_IFR_DISPLAY); 0x30 is unsigned (own rule)
abbrev pub display_of_flags : ℕ → Display
display_of_flags flags =
    if bit_and flags 0x30 == 0x00 then Signed
    else (if bit_and flags 0x30 == 0x20 then Hexadecimal
    else Unsigned)

abbrev pub display : List ℕ → Display
display op = display_of_flags (numeric_flags op)

abbrev pub numeric_minimum : List ℕ → ℕ
numeric_minimum op = number_in op 14 (numeric_width op)

abbrev pub numeric_maximum : List ℕ → ℕ
numeric_maximum op = number_in op (14 + numeric_width op) (numeric_width op)

abbrev pub numeric_step : List ℕ → ℕ
numeric_step op = number_in op (14 + 2 * numeric_width op) (numeric_width op)

-- EFI_IFR_ONE_OF, which is laid out as EFI_IFR_NUMERIC
abbrev pub one_of_flags : List ℕ → ℕ
one_of_flags op = numeric_flags op

abbrev pub one_of_width : List ℕ → ℕ
one_of_width op = numeric_width op

abbrev pub one_of_minimum : List ℕ → ℕ
one_of_minimum op = numeric_minimum op

abbrev pub one_of_maximum : List ℕ → ℕ
one_of_maximum op = numeric_maximum op

abbrev pub one_of_step : List ℕ → ℕ
one_of_step op = numeric_step op

-- EFI_IFR_STRING; its bounds count characters
abbrev pub string_minimum : List ℕ → ℕ
string_minimum op = field STRING "MinSize" op

abbrev pub string_maximum : List ℕ → ℕ
string_maximum op = field STRING "MaxSize" op

abbrev pub string_flags : List ℕ → ℕ
string_flags op = field STRING "Flags" op

-- EFI_IFR_PASSWORD; its bounds count characters
abbrev pub password_minimum : List ℕ → ℕ
password_minimum op = field PASSWORD "MinSize" op

abbrev pub password_maximum : List ℕ → ℕ
password_maximum op = field PASSWORD "MaxSize" op

-- EFI_IFR_ORDERED_LIST
abbrev pub ordered_list_containers : List ℕ → ℕ
ordered_list_containers op = field ORDERED_LIST "MaxContainers" op

abbrev pub ordered_list_flags : List ℕ → ℕ
ordered_list_flags op = field ORDERED_LIST "Flags" op

-- EFI_IFR_UNIQUE_SET
abbrev pub is_unique_set : List ℕ → Bool
is_unique_set op = has_flag (ordered_list_flags op) 0x01

-- EFI_IFR_NO_EMPTY_SET
abbrev pub has_no_empty_set : List ℕ → Bool
has_no_empty_set op = has_flag (ordered_list_flags op) 0x02

-- EFI_IFR_DATE
abbrev pub date_flags : List ℕ → ℕ
date_flags op = field DATE "Flags" op

-- EFI_IFR_TIME
abbrev pub time_flags : List ℕ → ℕ
time_flags op = field TIME "Flags" op

-- EFI_IFR_ACTION, whose text only longer opcodes have
abbrev pub action_text : List ℕ → Option ℕ
action_text op = number_where op 13 2

-- EFI_IFR_REF, and EFI_IFR_REF2 to EFI_IFR_REF4 by how many bytes it has
abbrev pub ref_form_id : List ℕ → Option ℕ
ref_form_id op = number_where op 13 2

abbrev pub ref_question_id : List ℕ → Option ℕ
ref_question_id op = number_where op 15 2

abbrev pub ref_form_set : List ℕ → Option (List ℕ)
ref_form_set op = if nat_le 33 (length op) then Some (slice_range op 17 33) else None

abbrev pub ref_device_path : List ℕ → Option ℕ
ref_device_path op = number_where op 33 2

-- the form of this form set to which it leads: one of 15 to 32 bytes leads to that of its form id, where this is not 0
-- (own rule)
abbrev pub ref_target : List ℕ → Option ℕ
ref_target op =
    if nat_lt (length op) 15 || nat_lt 32 (length op) || number_in op 13 2 == 0 then None
    else Some (number_in op 13 2)

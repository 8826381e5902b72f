-- What is known of an opcode: its fields with what they hold (UEFI 2.8, 33.3.8.3 Opcode Reference).
use Rattle.std.specs.Prelude.{ℕ, ◌*◌, ◌==◌, ◌||◌, nat_le, if◌then◌else◌, Option, Some, None, List, [], ◌∷◌, ◌++◌, codes, drop, length, slice_range, take}
use Rattle.std.specs.List.{before_first, filter_map}
use Rattle.browser_rules.specs.Opcodes.{number, field, field_in, two_byte_numbers, number_width, type_width, FLAGGED_QUESTION, DEFAULT, EQ_ID_VAL_LIST, ONE_OF_OPTION}
use Rattle.hii_bytes.specs.Numbers.{number_in}
use Rattle.ifr_opcodes.specs.declared.codes.TheConstants as code
use Rattle.opcode_audit.specs.Layouts.{Field, Kind, in_decimal, in_hex, a_text, a_guid, the_rest, to_nul, listed_so_many, fields_of}

-- A number, or flags and offsets, which lines tell in hex digits; a string id; a GUID; bytes; a name of one character a byte; numbers.
pub data Value : Type 0 where
  a_number some_bits an_id : ℕ → Value
  a_guid_of some_bytes a_name : List ℕ → Value
  some_numbers : List ℕ → Value

pub record Fact : Type 0 where
  pub name : List ℕ
  pub value : Value

-- ---- fields

-- what a field of so many bytes holds with which some bytes begin
abbrev pub value_in : Kind → ℕ → List ℕ → Value
value_in in_decimal width bytes = a_number (number_in bytes 0 width)
value_in in_hex width bytes = some_bits (number_in bytes 0 width)
value_in a_text width bytes = an_id (number_in bytes 0 width)
value_in a_guid width bytes = a_guid_of (slice_range bytes 0 width)
value_in the_rest width bytes = some_bytes bytes
value_in to_nul width bytes = a_name (before_first (λ byte. byte == 0) bytes)
value_in (listed_so_many count) width bytes = some_numbers (two_byte_numbers (take (2 * count) bytes))

-- a field whose bytes are there
abbrev pub fact_in : Field → List ℕ → List Fact
fact_in f bytes =
    if nat_le f.width (length bytes) then record { name = f.name; value = value_in f.kind f.width bytes } ∷ []
    else []

-- fields one behind the other: behind one that is cut there are no bytes
abbrev pub facts_in : List Field → List ℕ → List Fact
facts_in [] bytes = []
facts_in (f ∷ fs) bytes = fact_in f bytes ++ facts_in fs (drop f.width bytes)

-- ---- what stands behind the fields of some

abbrev pub number_field : List ℕ → ℕ → Field
number_field name width = record { name = name; width = width; kind = in_decimal }

-- the numbers of a NUMERIC or ONE_OF, without a sign
abbrev pub numbers : ℕ → List Field
numbers width =
    number_field (codes "MinValue") width ∷ number_field (codes "MaxValue") width
    ∷ number_field (codes "Step") width ∷ []

-- a value by its Type: a number or Boolean (0 to 4), a string id (7), or else all bytes that are left
abbrev pub typed : ℕ → List Field
typed kind =
    if nat_le kind 4 then number_field (codes "Value") (type_width kind) ∷ []
    else (if kind == 7 then record { name = codes "Value"; width = 2; kind = a_text } ∷ []
    else record { name = codes "Value"; width = 1; kind = the_rest } ∷ [])

-- the numbers of an EQ_ID_VAL_LIST, if it has some
abbrev pub values_listed : ℕ → List Field
values_listed count =
    if count == 0 then [] else record { name = codes "ValueList"; width = 2; kind = listed_so_many count } ∷ []

abbrev pub name_of_store : List Field
name_of_store = record { name = codes "Name"; width = 1; kind = to_nul } ∷ []

-- what an opcode has behind the fields of its number
abbrev pub tail_of : List ℕ → List Field
tail_of op =
    if number op == code.NUMERIC || number op == code.ONE_OF
    then numbers (number_width (field_in FLAGGED_QUESTION "Flags" op))
    else (if number op == code.ONE_OF_OPTION then typed (field ONE_OF_OPTION "Type" op)
    else (if number op == code.DEFAULT then typed (field DEFAULT "Type" op)
    else (if number op == code.EQ_ID_VAL_LIST then values_listed (field EQ_ID_VAL_LIST "ListLength" op)
    else (if number op == code.VARSTORE || number op == code.VARSTORE_EFI then name_of_store
    else []))))

-- the fields of an opcode that are there, from its third byte on
abbrev pub opcode_facts : List ℕ → List Fact
opcode_facts op = facts_in (fields_of (number op) ++ tail_of op) (drop 2 op)

-- the string id that a field holds, if it is one
abbrev pub id_in : Value → Option ℕ
id_in (an_id id) = Some id
id_in _ = None

-- the string ids that the fields of an opcode hold
abbrev pub string_ids : List ℕ → List ℕ
string_ids op = filter_map (λ f. id_in f.value) (opcode_facts op)

-- What the field of a question holds, by its opcode (UEFI 2.8, 33.3.8.3 Opcode Reference, under the name of each).
use Rattle.std.specs.Prelude.{ℕ, Bool, true, false, ◌==◌, if◌then◌else◌, Option, Some, None, List, [], ◌∷◌, map}
use Rattle.ifr_opcodes.specs.Opcode.{number}
use Rattle.ifr_opcodes.specs.Forest.{Node}
use Rattle.ifr_opcodes.specs.Fields.{type_width, display, numeric_width, numeric_minimum, numeric_maximum, one_of_width, string_minimum, string_maximum, password_minimum, password_maximum, ordered_list_containers, is_unique_set, has_no_empty_set, option_kind, option_value}
use Rattle.ifr_opcodes.specs.declared.codes.TheConstants.{CHECKBOX, NUMERIC, ONE_OF, STRING, PASSWORD, ORDERED_LIST}
use Rattle.ifr_opcodes.specs.declared.numbers.Display.{Display}
use Rattle.ifr_opcodes.specs.declared.numbers.Display.TheVariants.{Signed, Unsigned, Hexadecimal}
use Rattle.ifr_nodes.specs.Nodes.{options}
use Rattle.hii_values.specs.FieldTypes.{FieldType, checkbox, numeric, one_of, text, ordered_list}

abbrev pub is_signed : Display → Bool
is_signed Signed = true
is_signed Unsigned = false
is_signed Hexadecimal = false

abbrev pub option_values : List Node → List ℕ
option_values opts = map (λ (o : Node). option_value o.op) opts

-- the Type of the first option, by place
abbrev pub first_kind : List Node → Option ℕ
first_kind [] = None
first_kind (o ∷ opts) = Some (option_kind o.op)

abbrev pub width_of_kind : Option ℕ → ℕ
width_of_kind None = 1
width_of_kind (Some kind) = type_width kind

-- The elements of a list are as wide as its first option; without options they have a byte (own rule).
abbrev pub element_width : Node → ℕ
element_width n = width_of_kind (first_kind (options n))

-- Dates, times, actions and references have no field (own rule).
abbrev pub type_of : Node → Option FieldType
type_of n =
    if number n.op == CHECKBOX then Some checkbox
    else if number n.op == NUMERIC
    then Some (numeric (is_signed (display n.op)) (numeric_width n.op) (numeric_minimum n.op)
    (numeric_maximum n.op))
    else if number n.op == ONE_OF then Some (one_of (one_of_width n.op) (option_values (options n)))
    else if number n.op == STRING then Some (text (string_minimum n.op) (string_maximum n.op))
    else if number n.op == PASSWORD then Some (text (password_minimum n.op) (password_maximum n.op))
    else if number n.op == ORDERED_LIST
    then Some (ordered_list (element_width n) (ordered_list_containers n.op) (is_unique_set n.op)
    (has_no_empty_set n.op) (option_values (options n)))
    else None

-- EFI_IFR_PASSWORD
abbrev pub is_password : Node → Bool
is_password n = number n.op == PASSWORD

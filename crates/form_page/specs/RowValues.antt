-- What a row shows of a statement, kind by kind (own rule; the kinds are those of UEFI 2.8, 33.3.8.3 Opcode Reference).
use Rattle.std.specs.Prelude.{ℕ, zero, suc, ◌*◌, ◌/◌, ◌%◌, ◌^◌, true, false, Bool, ◌==◌, ◌&&◌, if◌then◌else◌, Option, Some, None, option_map, is_none, List, [], ◌∷◌, ◌++◌, map, codes, decimal}
use Rattle.std.specs.List.{find, flat_map}
use Rattle.std.specs.Fmt.{digit_glyph, signed_decimal}
use Rattle.browser_rules.specs.Strings.{characters}
use Rattle.ifr_opcodes.specs.declared.codes.TheConstants.{CHECKBOX, NUMERIC, ONE_OF, STRING, PASSWORD, ORDERED_LIST, REF, RESET_BUTTON, TEXT}
use Rattle.ifr_opcodes.specs.declared.numbers.Display.{Display}
use Rattle.ifr_opcodes.specs.declared.numbers.Display.TheVariants.{Signed, Unsigned, Hexadecimal}
use Rattle.ifr_opcodes.specs.Opcode.{number}
use Rattle.ifr_opcodes.specs.Fields.{display, numeric_width, option_text, option_value, ref_target, text_second}
use Rattle.ifr_opcodes.specs.Forest.{Node}
use Rattle.ifr_expr.specs.Values.{Value, boolean, natural, text, buffer}
use Rattle.ifr_nodes.specs.Nodes.{options, is_question}
use Rattle.hii_varstore.specs.Stores.{StoreMap}
use Rattle.hii_values.specs.Inputs.{number_of_bits}
use Rattle.hii_values.specs.Items.{items_in}
use Rattle.hii_values.specs.Types.{element_width}
use Rattle.hii_questions.specs.Answers.{value_of_field}
use Rattle.hii_questions.specs.Fields.{field_of}
use Rattle.guard_policy.specs.Policy.{hidden}
use Rattle.guard_policy.specs.World.{World}

-- EFI_IFR_CHECKBOX: an x where it is true, a space where it is false
abbrev pub checkbox_text : Bool → List ℕ
checkbox_text b = (if b then 120 else 32) ∷ []

abbrev pub checkbox_shown : Value → List ℕ
checkbox_shown (boolean b) = checkbox_text b
checkbox_shown _ = []

-- the lowest digits of a number in the base 16, the highest of them first
abbrev pub hex_digits : ℕ → ℕ → List ℕ
hex_digits zero n = []
hex_digits (suc count) n = digit_glyph false (n / 16 ^ count % 16) ∷ hex_digits count n

-- EFI_IFR_NUMERIC: in decimal, with a sign where its `width` bytes are shown as two's complement, or two hexadecimal digits
-- for each byte
abbrev pub number_text : Display → ℕ → ℕ → List ℕ
number_text Signed width n = signed_decimal (number_of_bits true width n)
number_text Unsigned width n = decimal n
number_text Hexadecimal width n = codes "0x" ++ hex_digits (2 * width) n

abbrev pub numeric_shown : List ℕ → Value → List ℕ
numeric_shown op (natural n) = number_text (display op) (numeric_width op) n
numeric_shown op _ = []

-- the first of some options, by place, that has the value and is not hidden
abbrev pub option_with : World → List Node → ℕ → Option Node
option_with w its value = find (λ o. (option_value o.op == value) && is_none (hidden w o)) its

-- the text of that option of a question
abbrev pub choice : (ℕ → List ℕ) → World → Node → ℕ → Option (List ℕ)
choice texts w n value =
    option_map (λ (o : Node). texts (option_text o.op)) (option_with w (options n) value)

-- where no option is to be seen, a question mark
abbrev pub choice_text : Option (List ℕ) → List ℕ
choice_text None = codes "?"
choice_text (Some its) = its

-- EFI_IFR_ONE_OF: the text of the option of its value
abbrev pub one_of_text : Option (List ℕ) → List ℕ
one_of_text its = codes "<" ++ choice_text its ++ codes ">"

abbrev pub one_of_shown : (ℕ → List ℕ) → World → Node → Value → List ℕ
one_of_shown texts w n (natural value) = one_of_text (choice texts w n value)
one_of_shown texts w n _ = []

-- EFI_IFR_ORDERED_LIST: the text of the option of each element, with a comma and a space between
abbrev pub later_text : List (Option (List ℕ)) → List ℕ
later_text choices = flat_map (λ its. codes ", " ++ choice_text its) choices

abbrev pub list_text : List (Option (List ℕ)) → List ℕ
list_text [] = []
list_text (its ∷ choices) = choice_text its ++ later_text choices

abbrev pub list_shown : (ℕ → List ℕ) → World → Node → Value → List ℕ
list_shown texts w n (buffer bytes) =
    list_text (map (choice texts w n) (items_in (element_width n) bytes))
list_shown texts w n _ = []

-- EFI_IFR_STRING: its characters
abbrev pub string_shown : Value → List ℕ
string_shown (text units) = characters units
string_shown _ = []

-- EFI_IFR_PASSWORD: only whether it is empty
abbrev pub password_text : List ℕ → List ℕ
password_text [] = []
password_text (unit ∷ units) = codes "****"

abbrev pub password_shown : Value → List ℕ
password_shown (text units) = password_text units
password_shown _ = []

-- what a question of each kind shows of a value; of the value of one without a field, which is undefined, nothing
abbrev pub stored_shown : (ℕ → List ℕ) → World → Node → Value → List ℕ
stored_shown texts w n value =
    if number n.op == CHECKBOX then checkbox_shown value
    else if number n.op == NUMERIC then numeric_shown n.op value
    else if number n.op == ONE_OF then one_of_shown texts w n value
    else if number n.op == STRING then string_shown value
    else if number n.op == PASSWORD then password_shown value
    else if number n.op == ORDERED_LIST then list_shown texts w n value
    else []

-- EFI_IFR_REF: the id of the form to which it leads
abbrev pub reference_text : Option ℕ → List ℕ
reference_text None = codes "->"
reference_text (Some form) = codes "->" ++ decimal form

-- what a question shows of its value in some stores; a statement that is no question has none
abbrev pub question_shown : (ℕ → List ℕ) → World → StoreMap → Node → List ℕ
question_shown texts w stores n =
    if is_question n then stored_shown texts w n (value_of_field stores n (field_of w.nodes n))
    else []

-- what the row of a statement shows between its brackets, with the texts as the characters that are shown of each string id
abbrev pub value_shown : (ℕ → List ℕ) → World → StoreMap → Node → List ℕ
value_shown texts w stores n =
    if number n.op == TEXT then texts (text_second n.op)
    else if number n.op == RESET_BUTTON then codes "reset"
    else if number n.op == REF then reference_text (ref_target n.op)
    else question_shown texts w stores n

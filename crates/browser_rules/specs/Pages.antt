-- The page of a form: its title, and a row for each of its statements that is not hidden (UEFI 2.8, 33.2.5.2 Forms and
-- 33.3.8.3; how a row looks is an own rule; how wide a character is, the crate unicode_width says).
use Rattle.std.specs.Prelude.{length, not, ℕ, zero, suc, ◌+◌, ◌-◌, ◌*◌, ◌/◌, ◌%◌, ◌^◌, true, false, ◌==◌, ◌&&◌, ◌||◌}
use Rattle.std.specs.Prelude.{nat_le, if◌then◌else◌, option_map, unwrap_or, is_some, is_none, List, [], ◌∷◌, ◌++◌, map}
use Rattle.std.specs.Prelude.{filter, replicate, codes, decimal, encode_utf8, bit_and}
use Rattle.std.specs.Fmt.{digit_glyph, signed_decimal}
use Rattle.std.specs.List.{find, flat_map}
use Rattle.unicode_width.specs.Width.{char_width}
use Rattle.browser_rules.specs.Words.{right_aligned}
use Rattle.browser_rules.specs.Values as values
use Rattle.browser_rules.specs.Values.{Value, boolean, natural, buffer}
use Rattle.browser_rules.specs.Opcodes.{field_in, field, STATEMENT_HEADER, FLAGGED_QUESTION, number_width, FORM}
use Rattle.browser_rules.specs.Opcodes.{SUBTITLE, TEXT, RESET_BUTTON, ONE_OF, PASSWORD, ONE_OF_OPTION, REF}
use Rattle.browser_rules.specs.Forest.{Node}
use Rattle.browser_rules.specs.Nodes.{is, is_question, question_id, statements, options, ref_target}
use Rattle.browser_rules.specs.Strings.{characters}
use Rattle.browser_rules.specs.Questions.{answer_of, items, element_width, number_of_bits, option_value}
use Rattle.browser_rules.specs.Policy.{World, hidden_by, fixed_by}

-- ---- characters

abbrev pub in_utf8 : List ℕ → List ℕ
in_utf8 text = flat_map encode_utf8 text

-- the longest front of whole characters that is at most so wide, and spaces; a character without a width has no column
abbrev pub in_columns : ℕ → List ℕ → List ℕ
in_columns room [] = replicate room 32
in_columns room (c ∷ text) =
    let columns = unwrap_or (char_width false c) 0 in
    if nat_le columns room then encode_utf8 c ++ in_columns (room - columns) text else replicate room 32

-- ---- what is shown between the brackets of a row, with the characters that are shown of each string id

-- so many of the lowest digits of a number in the base 16
abbrev pub hex_digits : ℕ → ℕ → List ℕ
hex_digits zero n = []
hex_digits (suc count) n = digit_glyph false (n / 16 ^ count % 16) ∷ hex_digits count n

-- EFI_IFR_DISPLAY: 00 with a sign, 20 in hex with two digits for each byte, any other without a sign
abbrev pub number_shown : ℕ → ℕ → List ℕ
number_shown flags n =
    if bit_and flags 0x30 == 0 then signed_decimal (number_of_bits true (number_width flags) n)
    else if bit_and flags 0x30 == 0x20 then codes "0x" ++ hex_digits (2 * number_width flags) n
    else decimal n

-- the text of the first option by place that has the value and is not hidden
abbrev pub choice_shown : (ℕ → List ℕ) → World → Node → ℕ → List ℕ
choice_shown texts w q value =
    let seen = find (λ o. option_value o == value && is_none (hidden_by w o)) (options q) in
    unwrap_or (option_map (λ o. texts (field ONE_OF_OPTION "Option" o.op)) seen) (codes "?")

abbrev pub with_commas : List (List ℕ) → List ℕ
with_commas [] = []
with_commas (text ∷ texts) = text ++ flat_map (λ t. codes ", " ++ t) texts

abbrev pub answer_shown : (ℕ → List ℕ) → World → Node → Value → List ℕ
answer_shown texts w q (boolean b) = codes (if b then "x" else " ")
answer_shown texts w q (natural n) =
    if is ONE_OF q then codes "<" ++ choice_shown texts w q n ++ codes ">"
    else number_shown (field_in FLAGGED_QUESTION "Flags" q.op) n
answer_shown texts w q (values.text bytes) =
    if not (is PASSWORD q) then characters bytes else if length bytes == 0 then [] else codes "****"
answer_shown texts w q (buffer bytes) = with_commas (map (choice_shown texts w q) (items (element_width q) bytes))
answer_shown texts w q _ = []

abbrev pub value_shown : (ℕ → List ℕ) → World → Node → List ℕ
value_shown texts w n =
    if is TEXT n then texts (field TEXT "TextTwo" n.op)
    else if is RESET_BUTTON n then codes "reset"
    else if is REF n then codes "->" ++ unwrap_or (option_map decimal (ref_target n)) []
    else if is_question n then answer_shown texts w n (answer_of w.nodes w.stores n)
    else []

-- ---- rows, numbered from 1; a form that is hidden, as the first one may be, has none

abbrev pub rows_of : World → Node → List Node
rows_of w form = filter (λ n. is_none (hidden_by w n)) (statements form)

-- a space for a SUBTITLE or TEXT, even a locked one; `!` for what is fixed, `*` for what may be changed
abbrev pub mark : World → Node → List ℕ
mark w n = codes (if is SUBTITLE n || is TEXT n then " " else if is_some (fixed_by w n) then "!" else "*")

abbrev pub row_text : (ℕ → List ℕ) → World → ℕ → Node → List ℕ
row_text texts w number n =
    right_aligned 3 (decimal number) ++ codes " " ++ mark w n ++ codes " "
    ++ right_aligned 5 (if is_question n then decimal (question_id n) else codes "-") ++ codes " "
    ++ in_columns 24 (texts (field_in STATEMENT_HEADER "Prompt" n.op))
    ++ codes " [" ++ in_utf8 (value_shown texts w n) ++ codes "]\n"

abbrev pub rows_from : (ℕ → List ℕ) → World → ℕ → List Node → List ℕ
rows_from texts w number [] = []
rows_from texts w number (n ∷ ns) = row_text texts w number n ++ rows_from texts w (number + 1) ns

abbrev pub page : (ℕ → List ℕ) → World → Node → List ℕ
page texts w form =
    codes "FORM " ++ decimal (field FORM "FormId" form.op) ++ codes " "
    ++ in_utf8 (texts (field FORM "FormTitle" form.op)) ++ codes "\n" ++ rows_from texts w 1 (rows_of w form)

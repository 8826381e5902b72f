-- What the values of rows stand for.
use Rattle.std.specs.Prelude.{ℕ, if◌then◌else◌, option_map, List, [], codes, decimal}
use Rattle.std.specs.Fmt.{signed_decimal}
use Rattle.browser_rules.specs.Strings.{characters}
use Rattle.sibt_strings.specs.code.Views.{units_in}
use Rattle.ifr_opcodes.specs.declared.numbers.Display.TheVariants as display
use Rattle.hii_languages.specs.code.Views.{text_of}
use Rattle.guard_policy.specs.declared.conditions.Conditions.{Ghosts}
use Rattle.form_page.specs.code.Elements.{elements_left}
use Rattle.form_page.specs.RowValues.{checkbox_text, number_text, one_of_text, list_text, reference_text}
use Rattle.form_page.specs.declared.row_value.RowValue.{RowValue}
use Rattle.form_page.specs.declared.row_value.RowValue.TheVariants as value

-- the characters of a value
abbrev pub value_text : {C : Type 0} {g : Ghosts C} → RowValue C g → List ℕ
value_text value.Empty = []
value_text (value.Checkbox b) = checkbox_text b
value_text (value.Unsigned n) = decimal n
value_text (value.Signed n) = signed_decimal n
value_text (value.Hexadecimal n) = number_text display.Hexadecimal n.width n.number
value_text (value.OneOf option) = one_of_text (option_map text_of option)
value_text (value.OrderedList elements) = list_text (elements_left elements)
value_text (value.String units) = characters (units_in units)
value_text (value.Password is_there) = if is_there then codes "****" else []
value_text (value.Reference form) = reference_text form
value_text value.ResetButton = codes "reset"
value_text (value.Text text) = text_of text

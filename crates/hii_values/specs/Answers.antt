-- The values that the bytes of fields are (UEFI 2.8, 33.2.5.4 Questions; which value a field's bytes are is an own rule).
use Rattle.std.specs.Prelude.{ℕ, ◌==◌, not, List, slice_index}
use Rattle.byteorder.specs.Endian.{little_number}
use Rattle.ifr_expr.specs.Values as values
use Rattle.ifr_expr.specs.Values.{Value, boolean, natural, buffer}
use Rattle.hii_values.specs.FieldTypes.{FieldType, checkbox, numeric, one_of, text, ordered_list}
use Rattle.hii_values.specs.Items.{bytes_of_items}

-- A checkbox is true where its byte is not 0. A number has no sign, whatever is shown. A text ends at its first zero unit. A
-- list is the whole field.
abbrev pub answer_in : FieldType → List ℕ → Value
answer_in checkbox bytes = boolean (not (slice_index bytes 0 == 0))
answer_in (numeric signed width minimum maximum) bytes = natural (little_number width bytes)
answer_in (one_of width values) bytes = natural (little_number width bytes)
answer_in (text minimum maximum) bytes = values.text (bytes_of_items 2 bytes)
answer_in (ordered_list width most unique some values) bytes = buffer bytes

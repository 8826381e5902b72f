-- What the parts of a row's value have before them.
use Rattle.std.specs.Prelude.{ℕ, List, drop}
use Rattle.form_page.specs.RowValues.{hex_digits}
use Rattle.form_page.specs.declared.ascii_text.Ascii.{Ascii}
use Rattle.form_page.specs.declared.hex_digits.HexDigits.{HexDigits}

-- the characters that are left
abbrev pub ascii_left : Ascii → List ℕ
ascii_left it = drop it.next it.text.items

abbrev pub digits_left : HexDigits → List ℕ
digits_left it = hex_digits it.count it.number

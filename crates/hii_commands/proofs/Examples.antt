-- Worked values of the definitions.
use Rattle.std.proofs.Common.{◌≡◌, pos, negsuc, [], ◌∷◌, Some, None, Ok, Err, codes, refl}
use Rattle.browser_rules.specs.Script.{Page, Set, Order, Text, Press, Extract, Lang, command_of}
use Rattle.browser_rules.specs.Words.{BadCommand}
use Rattle.hii_commands.specs.code.Lines.{lines_of, whole_lines}
use Rattle.hii_commands.specs.code.Reading.{command_in}

leading_zeros : command_in (codes "set 00001 -0") ≡ Some (Set 1 (pos 0))
leading_zeros = refl

least_value : command_in (codes "set 65535 -18446744073709551615") ≡ Some (Set 65535 (negsuc 18446744073709551614))
least_value = refl

hex_of_either_case : command_in (codes "set 7 0xfFFF") ≡ Some (Set 7 (pos 65535))
hex_of_either_case = refl

too_large_question : command_in (codes "set 65536 1") ≡ None
too_large_question = refl

six_digits : command_in (codes "set 000001 1") ≡ None
six_digits = refl

too_large_value : command_in (codes "set 1 18446744073709551616") ≡ None
too_large_value = refl

no_plus : command_in (codes "set 1 +1") ≡ None
no_plus = refl

negative_hex : command_in (codes "set 1 -0x1") ≡ None
negative_hex = refl

two_spaces : command_in (codes "set  1 1") ≡ None
two_spaces = refl

space_behind : command_in (codes "page ") ≡ None
space_behind = refl

elements : command_in (codes "order 7 3,0,00018446744073709551") ≡ Some (Order 7 (3 ∷ 0 ∷ 18446744073709551 ∷ []))
elements = refl

no_elements : command_in (codes "order 7") ≡ Some (Order 7 [])
no_elements = refl

space_behind_order : command_in (codes "order 7 ") ≡ None
space_behind_order = refl

comma_behind_order : command_in (codes "order 7 1,") ≡ None
comma_behind_order = refl

empty_element : command_in (codes "order 7 1,,2") ≡ None
empty_element = refl

too_large_element : command_in (codes "order 7 18446744073709551616") ≡ None
too_large_element = refl

empty_text : command_in (codes "text 1") ≡ Some (Text 1 [])
empty_text = refl

space_behind_text : command_in (codes "text 1 ") ≡ Some (Text 1 [])
space_behind_text = refl

text_from_a_space : command_in (codes "text 1  x ") ≡ Some (Text 1 (codes " x "))
text_from_a_space = refl

two_spaces_before_text : command_in (codes "text  1 x") ≡ None
two_spaces_before_text = refl

widest_row : command_in (codes "press 999999999") ≡ Some (Press 999999999)
widest_row = refl

ten_digits_of_a_row : command_in (codes "press 0000000001") ≡ None
ten_digits_of_a_row = refl

one_word : command_in (codes "extract GUID=&x") ≡ Some (Extract (codes "GUID=&x"))
one_word = refl

two_words : command_in (codes "route GUID= x") ≡ None
two_words = refl

no_word : command_in (codes "route ") ≡ None
no_word = refl

language : command_in (codes "lang en-US") ≡ Some (Lang (codes "en-US"))
language = refl

no_language : command_in (codes "lang ") ≡ None
no_language = refl

underscore_in_a_language : command_in (codes "lang en_US") ≡ None
underscore_in_a_language = refl

one_return : command_of (codes "page\r") ≡ Ok Page
one_return = refl

two_returns : command_of (codes "page\r\r") ≡ Err BadCommand
two_returns = refl

empty_line : command_of [] ≡ Err BadCommand
empty_line = refl

last_without_lf : lines_of (codes "page\n\nsubmit") ≡ codes "page" ∷ [] ∷ codes "submit" ∷ []
last_without_lf = refl

last_with_lf : lines_of (codes "page\n") ≡ codes "page" ∷ []
last_with_lf = refl

open_line : whole_lines (codes "page\nsub") ≡ codes "page" ∷ []
open_line = refl

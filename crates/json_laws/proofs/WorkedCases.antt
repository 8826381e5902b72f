-- Lines of audits, read, and texts that say nothing or otherwise stand in no line.
use Rattle.std.proofs.Common.{◌≡◌, pos, negsuc, List, [], ◌∷◌, Some, None, codes, refl}
use Rattle.std.specs.Char.{encode_utf8}
use Rattle.std.specs.Char.Utf16.{utf16_chars}
use Rattle.std.specs.Str.{chars, encode_utf8_all, is_utf8}
use Prim.Native.String.{String}
use Rattle.json_laws.specs.Reading.{Value, Facts, decoded, number, string, truth, array, object, no_facts, fact, value, repeated}
use Rattle.json_laws.specs.laws.Written.{items_of}

abbrev said : String → Value
said s = string (codes s)

abbrev list : List Value → Value
list values = array (items_of values)

abbrev facts_of : List (String × Value) → Facts
facts_of [] = no_facts
facts_of (m ∷ ms) = fact (codes m.0) m.1 (facts_of ms)

abbrev members : List (String × Value) → Value
members ms = object (facts_of ms)

-- ---- lines

a_list_of_a_dump :
    decoded (codes "{\"kind\":\"list\",\"number\":1,\"at\":0,\"size\":2618,\"forms\":1,\"guids\":[\"6D1E5A10-7C4B-4E0A-9A31-225C60880F01\"],\"languages\":[\"en-US\",\"de-DE\"],\"title\":\"Weather station\"}\n")
    ≡ Some (members (("kind", said "list") ∷ ("number", number (pos 1)) ∷ ("at", number (pos 0)) ∷ ("size", number (pos 2618))
    ∷ ("forms", number (pos 1)) ∷ ("guids", list (said "6D1E5A10-7C4B-4E0A-9A31-225C60880F01" ∷ [])) ∷ (
      "languages",
      list (said "en-US" ∷ said "de-DE"
          ∷ []),
    ) ∷ ("title", said "Weather station") ∷ []))
unfolding value repeated chars utf16_chars encode_utf8 is_utf8
a_list_of_a_dump = refl

a_form_set_with_its_counts :
    decoded (codes "{\"kind\":\"set\",\"list\":1,\"package\":1,\"guid\":\"6D1E5A10-7C4B-4E0A-9A31-225C60880F01\",\"title\":\"Weather station\",\"forms\":3,\"questions\":21,\"open\":14,\"grayed\":1,\"hidden\":2,\"disabled\":0,\"fixed\":4,\"constant\":0}\n")
    ≡ Some (members (("kind", said "set") ∷ ("list", number (pos 1)) ∷ ("package", number (pos 1))
    ∷ ("guid", said "6D1E5A10-7C4B-4E0A-9A31-225C60880F01") ∷ ("title", said "Weather station") ∷ ("forms", number (pos 3))
    ∷ ("questions", number (pos 21)) ∷ ("open", number (pos 14)) ∷ ("grayed", number (pos 1)) ∷ ("hidden", number (pos 2))
    ∷ ("disabled", number (pos 0)) ∷ ("fixed", number (pos 4)) ∷ ("constant", number (pos 0)) ∷ []))
unfolding value repeated chars utf16_chars encode_utf8 is_utf8
a_form_set_with_its_counts = refl

an_opcode_with_its_fields :
    decoded (codes "{\"kind\":\"opcode\",\"at\":4,\"byte\":24,\"depth\":0,\"name\":\"FORM_SET\",\"fields\":{\"Guid\":\"6D1E5A11-7C4B-4E0A-9A31-225C60880F02\",\"FormSetTitle\":1,\"FormSetTitleText\":\"Rules\",\"Help\":2,\"HelpText\":\"\",\"Flags\":1},\"bytes\":\"0ea7115a1e6d4b7c0a4e9a31225c60880f020100020001719903934585044bb45e32eb8326040e\"}\n")
    ≡ Some (members (("kind", said "opcode") ∷ ("at", number (pos 4)) ∷ ("byte", number (pos 24)) ∷ ("depth", number (pos 0))
    ∷ ("name", said "FORM_SET") ∷ (
      "fields",
      members (("Guid", said "6D1E5A11-7C4B-4E0A-9A31-225C60880F02") ∷ ("FormSetTitle", number (pos 1))
          ∷ ("FormSetTitleText", said "Rules") ∷ ("Help", number (pos 2)) ∷ ("HelpText", said "") ∷ ("Flags", number (pos 1)) ∷ []),
    )
    ∷ ("bytes", said "0ea7115a1e6d4b7c0a4e9a31225c60880f020100020001719903934585044bb45e32eb8326040e") ∷ []))
unfolding value repeated chars utf16_chars encode_utf8 is_utf8
an_opcode_with_its_fields = refl

a_value_that_differs :
    decoded (codes "{\"kind\":\"value\",\"id\":32,\"prompt\":\"Station enabled\",\"at\":144,\"field\":\"Station:0x0(1)\",\"old\":\"0\",\"new\":\"1\",\"oldShown\":\" \",\"newShown\":\"x\"}\n")
    ≡ Some (members (("kind", said "value") ∷ ("id", number (pos 32)) ∷ ("prompt", said "Station enabled") ∷ ("at", number (pos 144))
    ∷ ("field", said "Station:0x0(1)") ∷ ("old", said "0") ∷ ("new", said "1") ∷ ("oldShown", said " ") ∷ ("newShown", said "x") ∷ []))
unfolding value repeated chars utf16_chars encode_utf8 is_utf8
a_value_that_differs = refl

a_question_with_its_conditions_and_options :
    decoded (codes "{\"kind\":\"question\",\"id\":33,\"form\":1,\"opcode\":\"ONE_OF\",\"at\":168,\"byte\":188,\"prompt\":\"Mode\",\"help\":\"How it samples\",\"store\":16,\"name\":\"Station\",\"guid\":\"6D1E5A10-7C4B-4E0A-9A31-225C60880F01\",\"offset\":1,\"width\":1,\"value\":\"0\",\"shown\":\"<Slow>\",\"default\":\"0\",\"manufacturing\":\"1\",\"verdict\":\"grayoutif\",\"decider\":160,\"guards\":[{\"opcode\":\"GRAY_OUT_IF\",\"at\":160,\"byte\":180,\"state\":\"holds\",\"condition\":\"ideqval q32 == 0\"}],\"options\":[{\"value\":\"0\",\"text\":\"Slow\",\"verdict\":\"as the question\"},{\"value\":\"1\",\"text\":\"Fast\",\"verdict\":\"as the question\"},{\"value\":\"2\",\"text\":\"Heated\",\"verdict\":\"suppressif\",\"at\":199,\"condition\":\"ideqval q48 == 0\"}],\"depends\":[32],\"decides\":[34]}\n")
    ≡ Some (members (("kind", said "question") ∷ ("id", number (pos 33)) ∷ ("form", number (pos 1)) ∷ ("opcode", said "ONE_OF")
    ∷ ("at", number (pos 168)) ∷ ("byte", number (pos 188)) ∷ ("prompt", said "Mode") ∷ ("help", said "How it samples") ∷ ("store", number (pos 16))
    ∷ ("name", said "Station") ∷ ("guid", said "6D1E5A10-7C4B-4E0A-9A31-225C60880F01") ∷ ("offset", number (pos 1)) ∷ ("width", number (pos 1))
    ∷ ("value", said "0") ∷ ("shown", said "<Slow>") ∷ ("default", said "0") ∷ ("manufacturing", said "1") ∷ ("verdict", said "grayoutif")
    ∷ ("decider", number (pos 160)) ∷ (
      "guards",
      list (members (("opcode", said "GRAY_OUT_IF") ∷ ("at", number (pos 160)) ∷ ("byte", number (pos 180))
          ∷ ("state", said "holds") ∷ ("condition", said "ideqval q32 == 0") ∷ []) ∷ []),
    ) ∷ (
      "options",
      list (members (("value", said "0")
          ∷ ("text", said "Slow") ∷ ("verdict", said "as the question") ∷ []) ∷ members (("value", said "1") ∷ ("text", said "Fast")
          ∷ ("verdict", said "as the question") ∷ []) ∷ members (("value", said "2") ∷ ("text", said "Heated") ∷ ("verdict", said "suppressif")
          ∷ ("at", number (pos 199)) ∷ ("condition", said "ideqval q48 == 0") ∷ []) ∷ []),
    ) ∷ ("depends", list (number (pos 32) ∷ []))
    ∷ ("decides", list (number (pos 34) ∷ [])) ∷ []))
unfolding value repeated chars utf16_chars encode_utf8 is_utf8
a_question_with_its_conditions_and_options = refl

a_header :
    decoded (codes "{\"kind\":\"header\",\"id\":16,\"header\":\"GUID=105a1e6d4b7c0a4e9a31225c60880f01&NAME=00530074006100740069006f006e&PATH=\"}\n")
    ≡ Some (members (("kind", said "header") ∷ ("id", number (pos 16))
    ∷ ("header", said "GUID=105a1e6d4b7c0a4e9a31225c60880f01&NAME=00530074006100740069006f006e&PATH=") ∷ []))
unfolding value repeated chars utf16_chars encode_utf8 is_utf8
a_header = refl

a_store :
    decoded (codes "{\"kind\":\"store\",\"id\":16,\"opcode\":\"VARSTORE\",\"at\":55,\"size\":72,\"guid\":\"6D1E5A10-7C4B-4E0A-9A31-225C60880F01\",\"name\":\"Station\"}\n")
    ≡ Some (members (("kind", said "store") ∷ ("id", number (pos 16)) ∷ ("opcode", said "VARSTORE") ∷ ("at", number (pos 55))
    ∷ ("size", number (pos 72)) ∷ ("guid", said "6D1E5A10-7C4B-4E0A-9A31-225C60880F01") ∷ ("name", said "Station") ∷ []))
unfolding value repeated chars utf16_chars encode_utf8 is_utf8
a_store = refl

what_opens_a_question :
    decoded (codes "{\"kind\":\"unlock\",\"id\":33,\"verdict\":\"grayoutif\",\"at\":160,\"found\":\"found\",\"commands\":[\"set 32 1\"],\"tried\":2,\"prompt\":\"Mode\"}\n")
    ≡ Some (members (("kind", said "unlock") ∷ ("id", number (pos 33)) ∷ ("verdict", said "grayoutif") ∷ ("at", number (pos 160))
    ∷ ("found", said "found") ∷ ("commands", list (said "set 32 1" ∷ [])) ∷ ("tried", number (pos 2)) ∷ ("prompt", said "Mode") ∷ []))
unfolding value repeated chars utf16_chars encode_utf8 is_utf8
what_opens_a_question = refl

a_text_that_is_no_ASCII :
    decoded (encode_utf8_all (codes "{\"kind\":\"question\",\"id\":49,\"form\":2,\"opcode\":\"CHECKBOX\",\"at\":644,\"byte\":664,\"prompt\":\"Lüfter\",\"store\":16,\"name\":\"Station\",\"guid\":\"6D1E5A10-7C4B-4E0A-9A31-225C60880F01\",\"offset\":63,\"width\":1,\"value\":\"0\",\"shown\":\" \",\"verdict\":\"open\"}\n"))
    ≡ Some (members (("kind", said "question") ∷ ("id", number (pos 49)) ∷ ("form", number (pos 2)) ∷ ("opcode", said "CHECKBOX")
    ∷ ("at", number (pos 644)) ∷ ("byte", number (pos 664)) ∷ ("prompt", said "Lüfter") ∷ ("store", number (pos 16)) ∷ ("name", said "Station")
    ∷ ("guid", said "6D1E5A10-7C4B-4E0A-9A31-225C60880F01") ∷ ("offset", number (pos 63)) ∷ ("width", number (pos 1)) ∷ ("value", said "0")
    ∷ ("shown", said " ") ∷ ("verdict", said "open") ∷ []))
unfolding value repeated chars utf16_chars encode_utf8 is_utf8
a_text_that_is_no_ASCII = refl

bounds_of_a_warning :
    decoded (codes "{\"kind\":\"warning\",\"at\":230,\"word\":\"bounds\",\"minimum\":-20,\"maximum\":0}\n")
    ≡ Some (members (("kind", said "warning") ∷ ("at", number (pos 230)) ∷ ("word", said "bounds") ∷ ("minimum", number (negsuc 19))
    ∷ ("maximum", number (pos 0)) ∷ []))
unfolding value repeated chars utf16_chars encode_utf8 is_utf8
bounds_of_a_warning = refl

a_flag :
    decoded (codes "{\"kind\":\"warning\",\"at\":536,\"word\":\"constant\",\"holds\":true,\"condition\":\"TRUE\"}\n")
    ≡ Some (members (("kind", said "warning") ∷ ("at", number (pos 536)) ∷ ("word", said "constant") ∷ ("holds", truth) ∷ ("condition", said "TRUE")
    ∷ []))
unfolding value repeated chars utf16_chars encode_utf8 is_utf8
a_flag = refl

-- ---- strings, numbers, arrays and objects

escapes : decoded (codes "[\"\\ud83d\\uDE00\\u200e\", \"\\\"\\\\\\/\\b\\f\\n\\r\\t\"]")
    ≡ Some (list (string (0x1F600 ∷ 0x200E ∷ []) ∷ string (34 ∷ 92 ∷ 47 ∷ 8 ∷ 12 ∷ 10 ∷ 13 ∷ 9 ∷ []) ∷ []))
unfolding value repeated chars utf16_chars encode_utf8 is_utf8
escapes = refl

spaces : decoded (codes " { \"a\" : [ ] ,\t\"b\":{ } } \r\n") ≡ Some (members (("a", list []) ∷ ("b", members []) ∷ []))
unfolding value repeated chars utf16_chars encode_utf8 is_utf8
spaces = refl

numbers : decoded (codes "[0,-0,-1,18446744073709551615]") ≡ Some (list (number (pos 0) ∷ number (pos 0) ∷ number (negsuc 0) ∷ number (pos 18446744073709551615) ∷ []))
unfolding value repeated chars utf16_chars encode_utf8 is_utf8
numbers = refl

half_a_pair : decoded (codes "\"\\ud83d\"") ≡ None
unfolding value repeated chars utf16_chars encode_utf8 is_utf8
half_a_pair = refl

half_a_character : decoded (34 ∷ 0xC3 ∷ 34 ∷ []) ≡ None
unfolding value repeated chars utf16_chars encode_utf8 is_utf8
half_a_character = refl

a_control_character : decoded (codes "\"\t\"") ≡ None
unfolding value repeated chars utf16_chars encode_utf8 is_utf8
a_control_character = refl

an_escape_of_nothing : decoded (codes "\"\\x\"") ≡ None
unfolding value repeated chars utf16_chars encode_utf8 is_utf8
an_escape_of_nothing = refl

a_zero_in_front : decoded (codes "012") ≡ None
unfolding value repeated chars utf16_chars encode_utf8 is_utf8
a_zero_in_front = refl

a_comma_too_many : decoded (codes "[1,]") ≡ None
unfolding value repeated chars utf16_chars encode_utf8 is_utf8
a_comma_too_many = refl

a_bracket_too_few : decoded (codes "{\"kind\":\"list\"\n") ≡ None
unfolding value repeated chars utf16_chars encode_utf8 is_utf8
a_bracket_too_few = refl

a_name_without_value : decoded (codes "{\"kind\"}") ≡ None
unfolding value repeated chars utf16_chars encode_utf8 is_utf8
a_name_without_value = refl

two_values : decoded (codes "1 2") ≡ None
unfolding value repeated chars utf16_chars encode_utf8 is_utf8
two_values = refl

nothing : decoded [] ≡ None
unfolding value repeated chars utf16_chars encode_utf8 is_utf8
nothing = refl

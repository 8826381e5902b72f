-- Worked cases of the fields of questions and what they take, as tests/rule_cases writes them.
use Rattle.std.proofs.Common.{refl, inr}
use Rattle.std.specs.Prelude.{[], ◌∷◌, ◌++◌, codes}
use Rattle.browser_rules.proofs.CaseWords.{hex, hexes, forms_list, opening, asks, tells, sends, Case, usual, Holds}
use Rattle.browser_rules.proofs.cases.Computing.{computing}

-- ---- numbers

abbrev pub value_out_of_range : Case
value_out_of_range = record usual {
  list = forms_list (opening 2 ++ hexes
      ("060e 0300 0000 0100 0100 0000 00 00"  -- 39 CHECKBOX
      ∷ "2902 2902"  -- 47 49 END
      ∷ []));
  image = codes "HVS1" ++ hex "0100 0100 0200 0000";
  said = asks "set 1 2" ∷ tells "DENIED range at 00000039"
      ∷ asks "set 1 -1" ∷ tells "DENIED range at 00000039"
      ∷ asks "set 1 18446744073709551615" ∷ tells "DENIED range at 00000039"
      ∷ [];
  left = codes "HVS2" ++ hex "22222222222222222222222222222222 0100 0100 0200 0000";
}

value_out_of_range-holds : Holds value_out_of_range
unfolding computing
value_out_of_range-holds = record {
  stores = (1, hex "0000") ∷ [];
  opened = record { sound = refl; spelled = record { form = inr refl; laid = refl } };
  answers = refl;
  ended = refl;
  image = refl;
}

abbrev pub signed_number : Case
signed_number = record usual {
  list = forms_list (opening 2 ++ hexes
      ("0711 0300 0000 0100 0100 0000 00 00 80 7f 01"  -- 39 NUMERIC
      ∷ "2902 2902"  -- 4a 4c END
      ∷ []));
  image = codes "HVS1" ++ hex "0100 0100 0200 0000";
  said = asks "set 1 -128" ∷ tells "OK"
      ∷ asks "page" ∷ tells "FORM 1 #2" ∷ tells "  1 *     1 #3                       [-128]"
      ∷ asks "set 1 127" ∷ tells "OK"
      ∷ asks "set 1 128" ∷ tells "DENIED range at 00000039"
      ∷ asks "set 1 -129" ∷ tells "DENIED range at 00000039"
      ∷ asks "set 1 0x80" ∷ tells "DENIED range at 00000039"
      ∷ asks "set 1 0x7f" ∷ tells "OK"
      ∷ asks "page" ∷ tells "FORM 1 #2" ∷ tells "  1 *     1 #3                       [127]"
      ∷ asks "submit" ∷ tells "OK 1" ∷ tells "CHANGED 1"
      ∷ [];
  left = codes "HVS2" ++ hex "22222222222222222222222222222222 0100 0100 0200 7f00";
}

signed_number-holds : Holds signed_number
unfolding computing
signed_number-holds = record {
  stores = (1, hex "0000") ∷ [];
  opened = record { sound = refl; spelled = record { form = inr refl; laid = refl } };
  answers = refl;
  ended = refl;
  image = refl;
}

abbrev pub signed_number_of_two_bytes : Case
signed_number_of_two_bytes = record usual {
  list = forms_list (opening 2 ++ hexes
      ("0714 0300 0000 0100 0100 0000 00 01 feff 2c01 0400"  -- 39 NUMERIC
      ∷ "2902 2902"  -- 4d 4f END
      ∷ []));
  image = codes "HVS1" ++ hex "0100 0100 0200 feff";
  said = asks "page" ∷ tells "FORM 1 #2" ∷ tells "  1 *     1 #3                       [-2]"
      ∷ asks "set 1 -3" ∷ tells "DENIED range at 00000039"
      ∷ asks "set 1 301" ∷ tells "DENIED range at 00000039"
      ∷ asks "set 1 300" ∷ tells "OK"
      ∷ asks "page" ∷ tells "FORM 1 #2" ∷ tells "  1 *     1 #3                       [300]"
      ∷ asks "set 1 -1" ∷ tells "OK"
      ∷ asks "page" ∷ tells "FORM 1 #2" ∷ tells "  1 *     1 #3                       [-1]"
      ∷ asks "submit" ∷ tells "OK 1" ∷ tells "CHANGED 1"
      ∷ [];
  left = codes "HVS2" ++ hex "22222222222222222222222222222222 0100 0100 0200 ffff";
}

signed_number_of_two_bytes-holds : Holds signed_number_of_two_bytes
unfolding computing
signed_number_of_two_bytes-holds = record {
  stores = (1, hex "feff") ∷ [];
  opened = record { sound = refl; spelled = record { form = inr refl; laid = refl } };
  answers = refl;
  ended = refl;
  image = refl;
}

abbrev pub signed_number_of_eight_bytes : Case
signed_number_of_eight_bytes = record usual {
  list = forms_list (opening 8 ++ hexes
      ("0726 0300 0000 0100 0100 0000 00 03 0000000000000080 ffffffffffffff7f 0400000000000000"  -- 39 NUMERIC
      ∷ "2902 2902"  -- 5f 61 END
      ∷ []));
  image = codes "HVS1" ++ hex "0100 0100 0800 0000000000000000";
  said = asks "set 1 -9223372036854775808" ∷ tells "OK"
      ∷ asks "page" ∷ tells "FORM 1 #2" ∷ tells "  1 *     1 #3                       [-9223372036854775808]"
      ∷ asks "set 1 9223372036854775808" ∷ tells "DENIED range at 00000039"
      ∷ asks "set 1 -9223372036854775809" ∷ tells "DENIED range at 00000039"
      ∷ asks "set 1 9223372036854775807" ∷ tells "OK"
      ∷ asks "submit" ∷ tells "OK 1" ∷ tells "CHANGED 1"
      ∷ [];
  left = codes "HVS2" ++ hex "22222222222222222222222222222222 0100 0100 0800 ffffffffffffff7f";
}

signed_number_of_eight_bytes-holds : Holds signed_number_of_eight_bytes
unfolding computing
signed_number_of_eight_bytes-holds = record {
  stores = (1, hex "0000000000000000") ∷ [];
  opened = record { sound = refl; spelled = record { form = inr refl; laid = refl } };
  answers = refl;
  ended = refl;
  image = refl;
}

abbrev pub hexadecimal_number : Case
hexadecimal_number = record usual {
  list = forms_list (opening 2 ++ hexes
      ("0711 0300 0000 0100 0100 0000 00 20 00 ff 01"  -- 39 NUMERIC
      ∷ "2902 2902"  -- 4a 4c END
      ∷ []));
  image = codes "HVS1" ++ hex "0100 0100 0200 0a00";
  said = asks "page" ∷ tells "FORM 1 #2" ∷ tells "  1 *     1 #3                       [0x0a]"
      ∷ asks "set 1 -1" ∷ tells "DENIED range at 00000039"
      ∷ asks "set 1 256" ∷ tells "DENIED range at 00000039"
      ∷ asks "set 1 255" ∷ tells "OK"
      ∷ asks "page" ∷ tells "FORM 1 #2" ∷ tells "  1 *     1 #3                       [0xff]"
      ∷ [];
  left = codes "HVS2" ++ hex "22222222222222222222222222222222 0100 0100 0200 0a00";
}

hexadecimal_number-holds : Holds hexadecimal_number
unfolding computing
hexadecimal_number-holds = record {
  stores = (1, hex "0a00") ∷ [];
  opened = record { sound = refl; spelled = record { form = inr refl; laid = refl } };
  answers = refl;
  ended = refl;
  image = refl;
}

abbrev pub number_between_others : Case
number_between_others = record usual {
  list = forms_list (opening 4 ++ hexes
      ("0714 0300 0000 0100 0100 0100 00 11 0000 ffff 0400"  -- 39 NUMERIC
      ∷ "2902 2902"  -- 4d 4f END
      ∷ []));
  image = codes "HVS1" ++ hex "0100 0100 0400 aabbccdd";
  said = asks "page" ∷ tells "FORM 1 #2" ∷ tells "  1 *     1 #3                       [52411]"
      ∷ asks "set 1 0x1122" ∷ tells "OK"
      ∷ asks "submit" ∷ tells "OK 1" ∷ tells "CHANGED 1"
      ∷ [];
  left = codes "HVS2" ++ hex "22222222222222222222222222222222 0100 0100 0400 aa2211dd";
}

number_between_others-holds : Holds number_between_others
unfolding computing
number_between_others-holds = record {
  stores = (1, hex "aabbccdd") ∷ [];
  opened = record { sound = refl; spelled = record { form = inr refl; laid = refl } };
  answers = refl;
  ended = refl;
  image = refl;
}

abbrev pub number_within_its_bounds : Case
number_within_its_bounds = record usual {
  list = forms_list (opening 2 ++ hexes
      ("0711 0300 0000 0100 0100 0000 00 10 05 09 04"  -- 39 NUMERIC
      ∷ "2902 2902"  -- 4a 4c END
      ∷ []));
  image = codes "HVS1" ++ hex "0100 0100 0200 0000";
  said = asks "page" ∷ tells "FORM 1 #2" ∷ tells "  1 *     1 #3                       [0]"
      ∷ asks "set 1 4" ∷ tells "DENIED range at 00000039"
      ∷ asks "set 1 5" ∷ tells "OK"
      ∷ asks "set 1 9" ∷ tells "OK"
      ∷ asks "set 1 10" ∷ tells "DENIED range at 00000039"
      ∷ asks "set 1 6" ∷ tells "OK"
      ∷ asks "submit" ∷ tells "OK 1" ∷ tells "CHANGED 1"
      ∷ [];
  left = codes "HVS2" ++ hex "22222222222222222222222222222222 0100 0100 0200 0600";
}

number_within_its_bounds-holds : Holds number_within_its_bounds
unfolding computing
number_within_its_bounds-holds = record {
  stores = (1, hex "0000") ∷ [];
  opened = record { sound = refl; spelled = record { form = inr refl; laid = refl } };
  answers = refl;
  ended = refl;
  image = refl;
}

abbrev pub number_takes_no_text : Case
number_takes_no_text = record usual {
  list = forms_list (opening 2 ++ hexes
      ("0711 0300 0000 0100 0100 0000 00 10 00 09 04"  -- 39 NUMERIC
      ∷ "2902 2902"  -- 4a 4c END
      ∷ []));
  image = codes "HVS1" ++ hex "0100 0100 0200 0000";
  said = asks "text 1 5" ∷ tells "DENIED kind at 00000039"
      ∷ asks "order 1 5" ∷ tells "DENIED kind at 00000039"
      ∷ asks "text 1" ∷ tells "DENIED kind at 00000039"
      ∷ asks "order 1" ∷ tells "DENIED kind at 00000039"
      ∷ [];
  left = codes "HVS2" ++ hex "22222222222222222222222222222222 0100 0100 0200 0000";
}

number_takes_no_text-holds : Holds number_takes_no_text
unfolding computing
number_takes_no_text-holds = record {
  stores = (1, hex "0000") ∷ [];
  opened = record { sound = refl; spelled = record { form = inr refl; laid = refl } };
  answers = refl;
  ended = refl;
  image = refl;
}

abbrev pub number_of_an_undefined_display : Case
number_of_an_undefined_display = record usual {
  list = forms_list (opening 2 ++ hexes
      ("0711 0300 0000 0100 0100 0000 00 30 00 ff 04"  -- 39 NUMERIC
      ∷ "2902 2902"  -- 4a 4c END
      ∷ []));
  image = codes "HVS1" ++ hex "0100 0100 0200 ff00";
  said = asks "page" ∷ tells "FORM 1 #2" ∷ tells "  1 *     1 #3                       [255]"
      ∷ asks "set 1 -1" ∷ tells "DENIED range at 00000039"
      ∷ [];
  left = codes "HVS2" ++ hex "22222222222222222222222222222222 0100 0100 0200 ff00";
}

number_of_an_undefined_display-holds : Holds number_of_an_undefined_display
unfolding computing
number_of_an_undefined_display-holds = record {
  stores = (1, hex "ff00") ∷ [];
  opened = record { sound = refl; spelled = record { form = inr refl; laid = refl } };
  answers = refl;
  ended = refl;
  image = refl;
}

-- ---- choices

abbrev pub choice : Case
choice = record usual {
  list = forms_list (opening 2 ++ hexes
      ("0591 0300 0000 0100 0100 0000 00 10 00 00 04"  -- 39 ONE_OF
      ∷ "  0907 0500 00 00 01"  -- 4a ONE_OF_OPTION
      ∷ "  0907 0600 00 00 02"  -- 51 ONE_OF_OPTION
      ∷ "2902 2902 2902"  -- 58 5a 5c END
      ∷ []));
  image = codes "HVS1" ++ hex "0100 0100 0200 0000";
  said = asks "page" ∷ tells "FORM 1 #2" ∷ tells "  1 *     1 #3                       [<?>]"
      ∷ asks "set 1 2" ∷ tells "OK"
      ∷ asks "page" ∷ tells "FORM 1 #2" ∷ tells "  1 *     1 #3                       [<#6>]"
      ∷ asks "set 1 3" ∷ tells "DENIED nooption at 00000039"
      ∷ asks "set 1 0" ∷ tells "DENIED nooption at 00000039"
      ∷ asks "set 1 -1" ∷ tells "DENIED nooption at 00000039"
      ∷ asks "set 1 257" ∷ tells "DENIED nooption at 00000039"
      ∷ asks "text 1 #5" ∷ tells "DENIED kind at 00000039"
      ∷ asks "order 1 1" ∷ tells "DENIED kind at 00000039"
      ∷ asks "set 1 0x1" ∷ tells "OK"
      ∷ asks "page" ∷ tells "FORM 1 #2" ∷ tells "  1 *     1 #3                       [<#5>]"
      ∷ asks "submit" ∷ tells "OK 1" ∷ tells "CHANGED 1"
      ∷ [];
  left = codes "HVS2" ++ hex "22222222222222222222222222222222 0100 0100 0200 0100";
}

choice-holds : Holds choice
unfolding computing
choice-holds = record {
  stores = (1, hex "0000") ∷ [];
  opened = record { sound = refl; spelled = record { form = inr refl; laid = refl } };
  answers = refl;
  ended = refl;
  image = refl;
}

abbrev pub choice_of_two_bytes : Case
choice_of_two_bytes = record usual {
  list = forms_list (opening 2 ++ hexes
      ("0594 0300 0000 0100 0100 0000 00 11 0000 0000 0400"  -- 39 ONE_OF
      ∷ "  0908 0500 00 01 0201"  -- 4d ONE_OF_OPTION
      ∷ "  0907 0600 00 00 05"  -- 55 ONE_OF_OPTION
      ∷ "2902 2902 2902"  -- 5c 5e 60 END
      ∷ []));
  image = codes "HVS1" ++ hex "0100 0100 0200 0201";
  said = asks "page" ∷ tells "FORM 1 #2" ∷ tells "  1 *     1 #3                       [<#5>]"
      ∷ asks "set 1 5" ∷ tells "OK"
      ∷ asks "page" ∷ tells "FORM 1 #2" ∷ tells "  1 *     1 #3                       [<#6>]"
      ∷ asks "set 1 2" ∷ tells "DENIED nooption at 00000039"
      ∷ asks "submit" ∷ tells "OK 1" ∷ tells "CHANGED 1"
      ∷ [];
  left = codes "HVS2" ++ hex "22222222222222222222222222222222 0100 0100 0200 0500";
}

choice_of_two_bytes-holds : Holds choice_of_two_bytes
unfolding computing
choice_of_two_bytes-holds = record {
  stores = (1, hex "0201") ∷ [];
  opened = record { sound = refl; spelled = record { form = inr refl; laid = refl } };
  answers = refl;
  ended = refl;
  image = refl;
}

abbrev pub options_of_a_boolean : Case
options_of_a_boolean = record usual {
  list = forms_list (opening 2 ++ hexes
      ("0591 0300 0000 0100 0100 0000 00 10 00 00 04"  -- 39 ONE_OF
      ∷ "  0907 0500 00 04 00"  -- 4a ONE_OF_OPTION
      ∷ "  0907 0600 00 04 01"  -- 51 ONE_OF_OPTION
      ∷ "2902 2902 2902"  -- 58 5a 5c END
      ∷ []));
  image = codes "HVS1" ++ hex "0100 0100 0200 0000";
  said = asks "page" ∷ tells "FORM 1 #2" ∷ tells "  1 *     1 #3                       [<#5>]"
      ∷ asks "set 1 1" ∷ tells "OK"
      ∷ asks "page" ∷ tells "FORM 1 #2" ∷ tells "  1 *     1 #3                       [<#6>]"
      ∷ asks "set 1 2" ∷ tells "DENIED nooption at 00000039"
      ∷ [];
  left = codes "HVS2" ++ hex "22222222222222222222222222222222 0100 0100 0200 0000";
}

options_of_a_boolean-holds : Holds options_of_a_boolean
unfolding computing
options_of_a_boolean-holds = record {
  stores = (1, hex "0000") ∷ [];
  opened = record { sound = refl; spelled = record { form = inr refl; laid = refl } };
  answers = refl;
  ended = refl;
  image = refl;
}

-- ---- lists

abbrev pub ordered_list : Case
ordered_list = record usual {
  list = forms_list (opening 2 ++ hexes
      ("238f 0300 0000 0100 0100 0000 00 02 03"  -- 39 ORDERED_LIST
      ∷ "  0907 0500 00 00 01"  -- 48 ONE_OF_OPTION
      ∷ "  0907 0600 00 00 02"  -- 4f ONE_OF_OPTION
      ∷ "2902 2902 2902"  -- 56 58 5a END
      ∷ []));
  image = codes "HVS1" ++ hex "0100 0100 0200 0000";
  said = asks "page" ∷ tells "FORM 1 #2" ∷ tells "  1 *     1 #3                       []"
      ∷ asks "order 1 1,1" ∷ tells "DENIED repeat at 00000039"
      ∷ asks "order 1" ∷ tells "DENIED emptyset at 00000039"
      ∷ asks "order 1 1,2,1" ∷ tells "DENIED length at 00000039"
      ∷ asks "order 1 2,1" ∷ tells "OK"
      ∷ asks "page" ∷ tells "FORM 1 #2" ∷ tells "  1 *     1 #3                       [#6, #5]"
      ∷ asks "submit" ∷ tells "OK 1" ∷ tells "CHANGED 1"
      ∷ asks "order 1 0" ∷ tells "DENIED nooption at 00000039"
      ∷ asks "order 1 3,3" ∷ tells "DENIED nooption at 00000039"
      ∷ asks "order 1 1,3" ∷ tells "DENIED nooption at 00000039"
      ∷ asks "order 1 3,4,5" ∷ tells "DENIED length at 00000039"
      ∷ asks "order 1 18446744073709551615" ∷ tells "DENIED nooption at 00000039"
      ∷ asks "set 1 1" ∷ tells "DENIED kind at 00000039"
      ∷ asks "text 1 1" ∷ tells "DENIED kind at 00000039"
      ∷ asks "order 1 01" ∷ tells "OK"
      ∷ asks "page" ∷ tells "FORM 1 #2" ∷ tells "  1 *     1 #3                       [#5]"
      ∷ [];
  left = codes "HVS2" ++ hex "22222222222222222222222222222222 0100 0100 0200 0201";
}

ordered_list-holds : Holds ordered_list
unfolding computing
ordered_list-holds = record {
  stores = (1, hex "0000") ∷ [];
  opened = record { sound = refl; spelled = record { form = inr refl; laid = refl } };
  answers = refl;
  ended = refl;
  image = refl;
}

abbrev pub list_that_may_repeat_or_be_empty : Case
list_that_may_repeat_or_be_empty = record usual {
  list = forms_list (opening 2 ++ hexes
      ("238f 0300 0000 0100 0100 0000 00 02 00"  -- 39 ORDERED_LIST
      ∷ "  0907 0500 00 00 01"  -- 48 ONE_OF_OPTION
      ∷ "2902 2902 2902"  -- 4f 51 53 END
      ∷ []));
  image = codes "HVS1" ++ hex "0100 0100 0200 0000";
  said = asks "order 1 1,1" ∷ tells "OK"
      ∷ asks "page" ∷ tells "FORM 1 #2" ∷ tells "  1 *     1 #3                       [#5, #5]"
      ∷ asks "order 1 1,1,1" ∷ tells "DENIED length at 00000039"
      ∷ asks "order 1" ∷ tells "OK"
      ∷ asks "page" ∷ tells "FORM 1 #2" ∷ tells "  1 *     1 #3                       []"
      ∷ [];
  left = codes "HVS2" ++ hex "22222222222222222222222222222222 0100 0100 0200 0000";
}

list_that_may_repeat_or_be_empty-holds : Holds list_that_may_repeat_or_be_empty
unfolding computing
list_that_may_repeat_or_be_empty-holds = record {
  stores = (1, hex "0000") ∷ [];
  opened = record { sound = refl; spelled = record { form = inr refl; laid = refl } };
  answers = refl;
  ended = refl;
  image = refl;
}

abbrev pub list_ends_at_its_first_zero : Case
list_ends_at_its_first_zero = record usual {
  list = forms_list (opening 3 ++ hexes
      ("238f 0300 0000 0100 0100 0000 00 03 00"  -- 39 ORDERED_LIST
      ∷ "  0907 0500 00 00 01"  -- 48 ONE_OF_OPTION
      ∷ "2902 2902 2902"  -- 4f 51 53 END
      ∷ []));
  image = codes "HVS1" ++ hex "0100 0100 0300 010001";
  said = asks "page" ∷ tells "FORM 1 #2" ∷ tells "  1 *     1 #3                       [#5]"
      ∷ asks "order 1 1" ∷ tells "OK"
      ∷ asks "submit" ∷ tells "OK 1" ∷ tells "CHANGED 1"
      ∷ [];
  left = codes "HVS2" ++ hex "22222222222222222222222222222222 0100 0100 0300 010000";
}

list_ends_at_its_first_zero-holds : Holds list_ends_at_its_first_zero
unfolding computing
list_ends_at_its_first_zero-holds = record {
  stores = (1, hex "010001") ∷ [];
  opened = record { sound = refl; spelled = record { form = inr refl; laid = refl } };
  answers = refl;
  ended = refl;
  image = refl;
}

abbrev pub elements_of_two_bytes : Case
elements_of_two_bytes = record usual {
  list = forms_list (opening 4 ++ hexes
      ("238f 0300 0000 0100 0100 0000 00 02 00"  -- 39 ORDERED_LIST
      ∷ "  0908 0500 00 01 0201"  -- 48 ONE_OF_OPTION
      ∷ "  0908 0600 00 01 0100"  -- 50 ONE_OF_OPTION
      ∷ "2902 2902 2902"  -- 58 5a 5c END
      ∷ []));
  image = codes "HVS1" ++ hex "0100 0100 0400 00000000";
  said = asks "order 1 1,258" ∷ tells "OK"
      ∷ asks "page" ∷ tells "FORM 1 #2" ∷ tells "  1 *     1 #3                       [#6, #5]"
      ∷ asks "submit" ∷ tells "OK 1" ∷ tells "CHANGED 1"
      ∷ [];
  left = codes "HVS2" ++ hex "22222222222222222222222222222222 0100 0100 0400 01000201";
}

elements_of_two_bytes-holds : Holds elements_of_two_bytes
unfolding computing
elements_of_two_bytes-holds = record {
  stores = (1, hex "00000000") ∷ [];
  opened = record { sound = refl; spelled = record { form = inr refl; laid = refl } };
  answers = refl;
  ended = refl;
  image = refl;
}

abbrev pub list_without_options : Case
list_without_options = record usual {
  list = forms_list (opening 2 ++ hexes
      ("230f 0300 0000 0100 0100 0000 00 02 00"  -- 39 ORDERED_LIST
      ∷ "2902 2902"  -- 48 4a END
      ∷ []));
  image = codes "HVS1" ++ hex "0100 0100 0200 0000";
  said = asks "page" ∷ tells "FORM 1 #2" ∷ tells "  1 *     1 #3                       []"
      ∷ asks "order 1" ∷ tells "OK"
      ∷ asks "order 1 1" ∷ tells "DENIED nooption at 00000039"
      ∷ [];
  left = codes "HVS2" ++ hex "22222222222222222222222222222222 0100 0100 0200 0000";
}

list_without_options-holds : Holds list_without_options
unfolding computing
list_without_options-holds = record {
  stores = (1, hex "0000") ∷ [];
  opened = record { sound = refl; spelled = record { form = inr refl; laid = refl } };
  answers = refl;
  ended = refl;
  image = refl;
}

abbrev pub element_without_an_option : Case
element_without_an_option = record usual {
  list = forms_list (opening 2 ++ hexes
      ("238f 0300 0000 0100 0100 0000 00 02 03"  -- 39 ORDERED_LIST
      ∷ "  0907 0500 00 00 01"  -- 48 ONE_OF_OPTION
      ∷ "  0907 0600 00 00 02"  -- 4f ONE_OF_OPTION
      ∷ "2902 2902 2902"  -- 56 58 5a END
      ∷ []));
  image = codes "HVS1" ++ hex "0100 0100 0200 0301";
  said = asks "page" ∷ tells "FORM 1 #2" ∷ tells "  1 *     1 #3                       [?, #5]"
      ∷ [];
  left = codes "HVS2" ++ hex "22222222222222222222222222222222 0100 0100 0200 0301";
}

element_without_an_option-holds : Holds element_without_an_option
unfolding computing
element_without_an_option-holds = record {
  stores = (1, hex "0301") ∷ [];
  opened = record { sound = refl; spelled = record { form = inr refl; laid = refl } };
  answers = refl;
  ended = refl;
  image = refl;
}

abbrev pub list_that_may_be_empty_but_not_repeat : Case
list_that_may_be_empty_but_not_repeat = record usual {
  list = forms_list (opening 3 ++ hexes
      ("238f 0300 0000 0100 0100 0000 00 03 01"  -- 39 ORDERED_LIST
      ∷ "  0907 0500 00 00 01"  -- 48 ONE_OF_OPTION
      ∷ "  0907 0600 00 00 02"  -- 4f ONE_OF_OPTION
      ∷ "2902 2902 2902"  -- 56 58 5a END
      ∷ []));
  image = codes "HVS1" ++ hex "0100 0100 0300 000000";
  said = asks "order 1 1,1" ∷ tells "DENIED repeat at 00000039"
      ∷ asks "order 1" ∷ tells "OK"
      ∷ [];
  left = codes "HVS2" ++ hex "22222222222222222222222222222222 0100 0100 0300 000000";
}

list_that_may_be_empty_but_not_repeat-holds : Holds list_that_may_be_empty_but_not_repeat
unfolding computing
list_that_may_be_empty_but_not_repeat-holds = record {
  stores = (1, hex "000000") ∷ [];
  opened = record { sound = refl; spelled = record { form = inr refl; laid = refl } };
  answers = refl;
  ended = refl;
  image = refl;
}

abbrev pub list_that_may_repeat_but_not_be_empty : Case
list_that_may_repeat_but_not_be_empty = record usual {
  list = forms_list (opening 3 ++ hexes
      ("238f 0300 0000 0100 0100 0000 00 03 02"  -- 39 ORDERED_LIST
      ∷ "  0907 0500 00 00 01"  -- 48 ONE_OF_OPTION
      ∷ "  0907 0600 00 00 02"  -- 4f ONE_OF_OPTION
      ∷ "2902 2902 2902"  -- 56 58 5a END
      ∷ []));
  image = codes "HVS1" ++ hex "0100 0100 0300 000000";
  said = asks "order 1" ∷ tells "DENIED emptyset at 00000039"
      ∷ asks "order 1 1,1" ∷ tells "OK"
      ∷ [];
  left = codes "HVS2" ++ hex "22222222222222222222222222222222 0100 0100 0300 000000";
}

list_that_may_repeat_but_not_be_empty-holds : Holds list_that_may_repeat_but_not_be_empty
unfolding computing
list_that_may_repeat_but_not_be_empty-holds = record {
  stores = (1, hex "000000") ∷ [];
  opened = record { sound = refl; spelled = record { form = inr refl; laid = refl } };
  answers = refl;
  ended = refl;
  image = refl;
}

abbrev pub first_element_that_may_not_be_is_told : Case
first_element_that_may_not_be_is_told = record usual {
  list = forms_list (opening 3 ++ hexes
      ("238f 0300 0000 0100 0100 0000 00 03 01"  -- 39 ORDERED_LIST
      ∷ "  0907 0500 00 00 01"  -- 48 ONE_OF_OPTION
      ∷ "  0907 0600 00 00 02"  -- 4f ONE_OF_OPTION
      ∷ "2902 2902 2902"  -- 56 58 5a END
      ∷ []));
  image = codes "HVS1" ++ hex "0100 0100 0300 000000";
  said = asks "order 1 1,9,1" ∷ tells "DENIED nooption at 00000039"
      ∷ [];
  left = codes "HVS2" ++ hex "22222222222222222222222222222222 0100 0100 0300 000000";
}

first_element_that_may_not_be_is_told-holds : Holds first_element_that_may_not_be_is_told
unfolding computing
first_element_that_may_not_be_is_told-holds = record {
  stores = (1, hex "000000") ∷ [];
  opened = record { sound = refl; spelled = record { form = inr refl; laid = refl } };
  answers = refl;
  ended = refl;
  image = refl;
}

abbrev pub element_of_0_has_no_option : Case
element_of_0_has_no_option = record usual {
  list = forms_list (opening 3 ++ hexes
      ("238f 0300 0000 0100 0100 0000 00 03 00"  -- 39 ORDERED_LIST
      ∷ "  0907 0500 00 00 00"  -- 48 ONE_OF_OPTION
      ∷ "  0907 0600 00 00 01"  -- 4f ONE_OF_OPTION
      ∷ "2902 2902 2902"  -- 56 58 5a END
      ∷ []));
  image = codes "HVS1" ++ hex "0100 0100 0300 000000";
  said = asks "order 1 0" ∷ tells "DENIED nooption at 00000039"
      ∷ [];
  left = codes "HVS2" ++ hex "22222222222222222222222222222222 0100 0100 0300 000000";
}

element_of_0_has_no_option-holds : Holds element_of_0_has_no_option
unfolding computing
element_of_0_has_no_option-holds = record {
  stores = (1, hex "000000") ∷ [];
  opened = record { sound = refl; spelled = record { form = inr refl; laid = refl } };
  answers = refl;
  ended = refl;
  image = refl;
}

-- ---- texts

abbrev pub text_of_one_character : Case
text_of_one_character = record usual {
  list = forms_list (opening 2 ++ hexes
      ("1c10 0300 0000 0100 0100 0000 00 00 01 00"  -- 39 STRING
      ∷ "2902 2902"  -- 49 4b END
      ∷ []));
  image = codes "HVS1" ++ hex "0100 0100 0200 0000";
  said = asks "page" ∷ tells "FORM 1 #2" ∷ tells "  1 *     1 #3                       []"
      ∷ asks "text 1 é" ∷ tells "OK"
      ∷ asks "page" ∷ tells "FORM 1 #2" ∷ tells "  1 *     1 #3                       [é]"
      ∷ asks "text 1 ab" ∷ tells "DENIED length at 00000039"
      ∷ asks "text 1 😀" ∷ tells "DENIED badtext at 00000039"
      ∷ sends (codes "text 1 " ++ hex "ff" ++ codes "\n") ∷ tells "DENIED badtext at 00000039"
      ∷ sends (codes "text 1 " ++ hex "ed" ++ hex "a0" ++ hex "80" ++ codes "\n")
      ∷ tells "DENIED badtext at 00000039"
      ∷ asks "text 1 \0" ∷ tells "DENIED badtext at 00000039"
      ∷ asks "set 1 1" ∷ tells "DENIED kind at 00000039"
      ∷ asks "order 1 1" ∷ tells "DENIED kind at 00000039"
      ∷ asks "submit" ∷ tells "OK 1" ∷ tells "CHANGED 1"
      ∷ asks "text 1" ∷ tells "OK"
      ∷ asks "page" ∷ tells "FORM 1 #2" ∷ tells "  1 *     1 #3                       []"
      ∷ [];
  left = codes "HVS2" ++ hex "22222222222222222222222222222222 0100 0100 0200 e900";
}

text_of_one_character-holds : Holds text_of_one_character
unfolding computing
text_of_one_character-holds = record {
  stores = (1, hex "0000") ∷ [];
  opened = record { sound = refl; spelled = record { form = inr refl; laid = refl } };
  answers = refl;
  ended = refl;
  image = refl;
}

abbrev pub text_of_two_to_four_characters : Case
text_of_two_to_four_characters = record usual {
  list = forms_list (opening 8 ++ hexes
      ("1c10 0300 0000 0100 0100 0000 00 02 04 00"  -- 39 STRING
      ∷ "2902 2902"  -- 49 4b END
      ∷ []));
  image = codes "HVS1" ++ hex "0100 0100 0800 0000000000000000";
  said = asks "text 1 a" ∷ tells "DENIED length at 00000039"
      ∷ asks "text 1" ∷ tells "DENIED length at 00000039"
      ∷ asks "text 1 " ∷ tells "DENIED length at 00000039"
      ∷ asks "text 1 abcd" ∷ tells "OK"
      ∷ asks "page" ∷ tells "FORM 1 #2" ∷ tells "  1 *     1 #3                       [abcd]"
      ∷ asks "text 1 abcde" ∷ tells "DENIED length at 00000039"
      ∷ asks "text 1  ab" ∷ tells "OK"
      ∷ asks "page" ∷ tells "FORM 1 #2" ∷ tells "  1 *     1 #3                       [ ab]"
      ∷ asks "text 1 ab" ∷ tells "OK"
      ∷ asks "submit" ∷ tells "OK 1" ∷ tells "CHANGED 1"
      ∷ [];
  left = codes "HVS2" ++ hex "22222222222222222222222222222222 0100 0100 0800 6100620000000000";
}

text_of_two_to_four_characters-holds : Holds text_of_two_to_four_characters
unfolding computing
text_of_two_to_four_characters-holds = record {
  stores = (1, hex "0000000000000000") ∷ [];
  opened = record { sound = refl; spelled = record { form = inr refl; laid = refl } };
  answers = refl;
  ended = refl;
  image = refl;
}

abbrev pub text_ends_at_its_first_zero_unit : Case
text_ends_at_its_first_zero_unit = record usual {
  list = forms_list (opening 8 ++ hexes
      ("1c10 0300 0000 0100 0100 0000 00 00 04 00"  -- 39 STRING
      ∷ "2902 2902"  -- 49 4b END
      ∷ []));
  image = codes "HVS1" ++ hex "0100 0100 0800 6100000062000000";
  said = asks "page" ∷ tells "FORM 1 #2" ∷ tells "  1 *     1 #3                       [a]"
      ∷ asks "text 1 a" ∷ tells "OK"
      ∷ asks "submit" ∷ tells "OK 1" ∷ tells "CHANGED 1"
      ∷ [];
  left = codes "HVS2" ++ hex "22222222222222222222222222222222 0100 0100 0800 6100000000000000";
}

text_ends_at_its_first_zero_unit-holds : Holds text_ends_at_its_first_zero_unit
unfolding computing
text_ends_at_its_first_zero_unit-holds = record {
  stores = (1, hex "6100000062000000") ∷ [];
  opened = record { sound = refl; spelled = record { form = inr refl; laid = refl } };
  answers = refl;
  ended = refl;
  image = refl;
}

abbrev pub text_of_no_character : Case
text_of_no_character = record usual {
  list = forms_list (opening 2 ++ hexes
      ("1c10 0300 0000 0100 0100 0200 00 00 00 00"  -- 39 STRING
      ∷ "2902 2902"  -- 49 4b END
      ∷ []));
  image = codes "HVS1" ++ hex "0100 0100 0200 0000";
  said = asks "page" ∷ tells "FORM 1 #2" ∷ tells "  1 *     1 #3                       []"
      ∷ asks "text 1 a" ∷ tells "DENIED length at 00000039"
      ∷ asks "text 1" ∷ tells "OK"
      ∷ asks "submit" ∷ tells "OK 0"
      ∷ [];
  left = codes "HVS2" ++ hex "22222222222222222222222222222222 0100 0100 0200 0000";
}

text_of_no_character-holds : Holds text_of_no_character
unfolding computing
text_of_no_character-holds = record {
  stores = (1, hex "0000") ∷ [];
  opened = record { sound = refl; spelled = record { form = inr refl; laid = refl } };
  answers = refl;
  ended = refl;
  image = refl;
}

abbrev pub checkbox_takes_no_text : Case
checkbox_takes_no_text = record usual {
  list = forms_list (opening 2 ++ hexes
      ("060e 0300 0000 0100 0100 0000 00 00"  -- 39 CHECKBOX
      ∷ "2902 2902"  -- 47 49 END
      ∷ []));
  image = codes "HVS1" ++ hex "0100 0100 0200 0000";
  said = asks "text 1 x" ∷ tells "DENIED kind at 00000039"
      ∷ asks "order 1 1" ∷ tells "DENIED kind at 00000039"
      ∷ [];
  left = codes "HVS2" ++ hex "22222222222222222222222222222222 0100 0100 0200 0000";
}

checkbox_takes_no_text-holds : Holds checkbox_takes_no_text
unfolding computing
checkbox_takes_no_text-holds = record {
  stores = (1, hex "0000") ∷ [];
  opened = record { sound = refl; spelled = record { form = inr refl; laid = refl } };
  answers = refl;
  ended = refl;
  image = refl;
}

abbrev pub password : Case
password = record usual {
  list = forms_list (opening 4 ++ hexes
      ("0811 0300 0000 0100 0100 0000 00 0100 0200"  -- 39 PASSWORD
      ∷ "2902 2902"  -- 4a 4c END
      ∷ []));
  image = codes "HVS1" ++ hex "0100 0100 0400 00000000";
  said = asks "page" ∷ tells "FORM 1 #2" ∷ tells "  1 *     1 #3                       []"
      ∷ asks "text 1" ∷ tells "DENIED length at 00000039"
      ∷ asks "text 1 ab" ∷ tells "OK"
      ∷ asks "page" ∷ tells "FORM 1 #2" ∷ tells "  1 *     1 #3                       [****]"
      ∷ asks "text 1 abc" ∷ tells "DENIED length at 00000039"
      ∷ asks "set 1 1" ∷ tells "DENIED kind at 00000039"
      ∷ asks "submit" ∷ tells "OK 1" ∷ tells "CHANGED 1"
      ∷ [];
  left = codes "HVS2" ++ hex "22222222222222222222222222222222 0100 0100 0400 61006200";
}

password-holds : Holds password
unfolding computing
password-holds = record {
  stores = (1, hex "00000000") ∷ [];
  opened = record { sound = refl; spelled = record { form = inr refl; laid = refl } };
  answers = refl;
  ended = refl;
  image = refl;
}

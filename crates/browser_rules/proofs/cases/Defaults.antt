-- Worked cases of defaults, as tests/rule_cases writes them.
use Rattle.std.proofs.Common.{refl, inr}
use Rattle.std.specs.Prelude.{[], ◌∷◌, ◌++◌, codes}
use Rattle.browser_rules.proofs.CaseWords.{hex, hexes, packed, package_list, forms_list, opening, asks, tells, Case, usual, Holds}
use Rattle.browser_rules.proofs.cases.Computing.{computing}

-- ---- of a class

abbrev pub default_of_a_sum : Case
default_of_a_sum = record usual {
  list = forms_list (opening 2 ++ hexes
      ("0791 0300 0000 0100 0100 0000 00 10 00 09 01"  -- 39 NUMERIC
      ∷ "  5b06 0000 00 05"  -- 4a DEFAULT
      ∷ "  5b85 0100 08"  -- 50 DEFAULT
      ∷ "    5a82"  -- 55 VALUE
      ∷ "      4283 04"  -- 57 UINT8
      ∷ "        4203 03"  -- 5a UINT8
      ∷ "        3a02"  -- 5d ADD
      ∷ "      2902 2902 2902 2902 2902 2902"  -- 5f 61 63 65 67 69 END
      ∷ []));
  image = codes "HVS1" ++ hex "0100 0100 0200 0000";
  said = asks "defaults 0" ∷ tells "OK 1"
      ∷ asks "page" ∷ tells "FORM 1 #2" ∷ tells "  1 *     1 #3                       [5]"
      ∷ asks "defaults 1" ∷ tells "OK 1"
      ∷ asks "page" ∷ tells "FORM 1 #2" ∷ tells "  1 *     1 #3                       [7]"
      ∷ asks "defaults 2" ∷ tells "OK 0"
      ∷ asks "submit" ∷ tells "OK 1" ∷ tells "CHANGED 1"
      ∷ [];
  left = codes "HVS2" ++ hex "22222222222222222222222222222222 0100 0100 0200 0700";
}

default_of_a_sum-holds : Holds default_of_a_sum
unfolding computing
default_of_a_sum-holds = record {
  stores = (1, hex "0000") ∷ [];
  opened = record { sound = refl; spelled = record { form = inr refl; laid = refl } };
  answers = refl;
  ended = refl;
  image = refl;
}

abbrev pub default_of_a_sum_past_the_maximum : Case
default_of_a_sum_past_the_maximum = record usual {
  list = forms_list (opening 2 ++ hexes
      ("0791 0300 0000 0100 0100 0000 00 10 00 09 01"  -- 39 NUMERIC
      ∷ "  5b06 0000 00 05"  -- 4a DEFAULT
      ∷ "  5b85 0100 08"  -- 50 DEFAULT
      ∷ "    5a82"  -- 55 VALUE
      ∷ "      4283 09"  -- 57 UINT8
      ∷ "        4203 03"  -- 5a UINT8
      ∷ "        3a02"  -- 5d ADD
      ∷ "      2902 2902 2902 2902 2902 2902"  -- 5f 61 63 65 67 69 END
      ∷ []));
  image = codes "HVS1" ++ hex "0100 0100 0200 0000";
  said = asks "defaults 0" ∷ tells "OK 1"
      ∷ asks "page" ∷ tells "FORM 1 #2" ∷ tells "  1 *     1 #3                       [5]"
      ∷ asks "defaults 1" ∷ tells "OK 0"
      ∷ asks "page" ∷ tells "FORM 1 #2" ∷ tells "  1 *     1 #3                       [5]"
      ∷ asks "defaults 2" ∷ tells "OK 0"
      ∷ asks "submit" ∷ tells "OK 1" ∷ tells "CHANGED 1"
      ∷ [];
  left = codes "HVS2" ++ hex "22222222222222222222222222222222 0100 0100 0200 0500";
}

default_of_a_sum_past_the_maximum-holds : Holds default_of_a_sum_past_the_maximum
unfolding computing
default_of_a_sum_past_the_maximum-holds = record {
  stores = (1, hex "0000") ∷ [];
  opened = record { sound = refl; spelled = record { form = inr refl; laid = refl } };
  answers = refl;
  ended = refl;
  image = refl;
}

abbrev pub defaults_of_a_number : Case
defaults_of_a_number = record usual {
  list = forms_list (opening 2 ++ hexes
      ("0791 0300 0000 0100 0100 0000 00 10 00 09 04"  -- 39 NUMERIC
      ∷ "  5b06 0000 00 05"  -- 4a DEFAULT
      ∷ "  5b85 0100 08"  -- 50 DEFAULT
      ∷ "    5a82"  -- 55 VALUE
      ∷ "      4283 04"  -- 57 UINT8
      ∷ "        4203 03"  -- 5a UINT8
      ∷ "        3a02"  -- 5d ADD
      ∷ "      2902 2902 2902"  -- 5f 61 63 END
      ∷ "  5b85 0300 08"  -- 65 DEFAULT
      ∷ "    5a82"  -- 6a VALUE
      ∷ "      4283 09"  -- 6c UINT8
      ∷ "        4203 03"  -- 6f UINT8
      ∷ "        3a02"  -- 72 ADD
      ∷ "      2902 2902 2902"  -- 74 76 78 END
      ∷ "  5b85 0400 08"  -- 7a DEFAULT
      ∷ "    5a82"  -- 7f VALUE
      ∷ "      4283 01"  -- 81 UINT8
      ∷ "        4203 00"  -- 84 UINT8
      ∷ "        3d02"  -- 87 DIVIDE
      ∷ "      2902 2902 2902"  -- 89 8b 8d END
      ∷ "  5b06 0400 00 01"  -- 8f DEFAULT
      ∷ "  5b85 0500 08"  -- 95 DEFAULT
      ∷ "    5a82"  -- 9a VALUE
      ∷ "      5802"  -- 9c THIS
      ∷ "    2902 2902"  -- 9e a0 END
      ∷ "  5b85 0600 08"  -- a2 DEFAULT
      ∷ "    5a82"  -- a7 VALUE
      ∷ "      4602"  -- a9 TRUE
      ∷ "    2902 2902"  -- ab ad END
      ∷ "  5b06 0700 04 07"  -- af DEFAULT
      ∷ "  5b08 0800 05 000000"  -- b5 DEFAULT
      ∷ "  5b05 0900 09"  -- bd DEFAULT
      ∷ "2902 2902 2902"  -- c2 c4 c6 END
      ∷ []));
  image = codes "HVS1" ++ hex "0100 0100 0200 0000";
  said = asks "page" ∷ tells "FORM 1 #2" ∷ tells "  1 *     1 #3                       [0]"
      ∷ asks "defaults 0" ∷ tells "OK 1"
      ∷ asks "page" ∷ tells "FORM 1 #2" ∷ tells "  1 *     1 #3                       [5]"
      ∷ asks "defaults 5" ∷ tells "OK 1"
      ∷ asks "page" ∷ tells "FORM 1 #2" ∷ tells "  1 *     1 #3                       [5]"
      ∷ asks "defaults 1" ∷ tells "OK 1"
      ∷ asks "page" ∷ tells "FORM 1 #2" ∷ tells "  1 *     1 #3                       [7]"
      ∷ asks "defaults 2" ∷ tells "OK 0"
      ∷ asks "defaults 3" ∷ tells "OK 0"
      ∷ asks "defaults 4" ∷ tells "OK 0"
      ∷ asks "defaults 8" ∷ tells "OK 0"
      ∷ asks "defaults 9" ∷ tells "OK 0"
      ∷ asks "page" ∷ tells "FORM 1 #2" ∷ tells "  1 *     1 #3                       [7]"
      ∷ asks "defaults 6" ∷ tells "OK 1"
      ∷ asks "page" ∷ tells "FORM 1 #2" ∷ tells "  1 *     1 #3                       [1]"
      ∷ asks "defaults 0" ∷ tells "OK 1"
      ∷ asks "defaults 7" ∷ tells "OK 1"
      ∷ asks "page" ∷ tells "FORM 1 #2" ∷ tells "  1 *     1 #3                       [1]"
      ∷ [];
  left = codes "HVS2" ++ hex "22222222222222222222222222222222 0100 0100 0200 0000";
}

defaults_of_a_number-holds : Holds defaults_of_a_number
unfolding computing
defaults_of_a_number-holds = record {
  stores = (1, hex "0000") ∷ [];
  opened = record { sound = refl; spelled = record { form = inr refl; laid = refl } };
  answers = refl;
  ended = refl;
  image = refl;
}

abbrev pub defaults_of_a_text : Case
defaults_of_a_text = record usual {
  list = package_list (packed 4 (hexes
      ("2e000000 34000000"  -- where the texts begin
      ∷ "0000000000000000000000000000000000000000000000000000000000000000"
      ∷ "0100"
      ∷ "656e2d555300"  -- en-US
      ∷ "1604000000460000004e0061006d00650000006f006e006500000000"
      ∷ []))
      ++ packed 4 (hexes
      ("2e000000 31000000"  -- where the texts begin
      ∷ "0000000000000000000000000000000000000000000000000000000000000000"
      ∷ "0100"
      ∷ "667200"  -- fr
      ∷ "16040000000000000075006e00000000"
      ∷ []))
      ++ packed 2 (opening 6 ++ hexes
      ("1c90 0300 0000 0100 0100 0000 00 00 03 00"  -- 39 STRING
      ∷ "  5b07 0000 07 0400"  -- 49 DEFAULT
      ∷ "  5b07 0100 07 0900"  -- 50 DEFAULT
      ∷ "  5b07 0200 07 0300"  -- 57 DEFAULT
      ∷ "  5b07 0300 07 0000"  -- 5e DEFAULT
      ∷ "2902 2902 2902"  -- 65 67 69 END
      ∷ [])));
  image = codes "HVS1" ++ hex "0100 0100 0600 000000000000";
  said = asks "defaults 0" ∷ tells "OK 1"
      ∷ asks "page" ∷ tells "FORM 1 F" ∷ tells "  1 *     1 Name                     [one]"
      ∷ asks "defaults 1" ∷ tells "OK 0"
      ∷ asks "defaults 2" ∷ tells "OK 0"
      ∷ asks "defaults 3" ∷ tells "OK 0"
      ∷ asks "lang fr" ∷ tells "OK"
      ∷ asks "defaults 0" ∷ tells "OK 1"
      ∷ asks "page" ∷ tells "FORM 1 " ∷ tells "  1 *     1                          [un]"
      ∷ [];
  left = codes "HVS2" ++ hex "22222222222222222222222222222222 0100 0100 0600 000000000000";
}

defaults_of_a_text-holds : Holds defaults_of_a_text
unfolding computing
defaults_of_a_text-holds = record {
  stores = (1, hex "000000000000") ∷ [];
  opened = record { sound = refl; spelled = record { form = inr refl; laid = refl } };
  answers = refl;
  ended = refl;
  image = refl;
}

abbrev pub defaults_of_a_list : Case
defaults_of_a_list = record usual {
  list = forms_list (opening 6 ++ hexes
      ("238f 0300 0000 0100 0100 0000 00 03 00"  -- 39 ORDERED_LIST
      ∷ "  0908 0500 10 01 0100"  -- 48 ONE_OF_OPTION
      ∷ "  0908 0600 00 01 0200"  -- 50 ONE_OF_OPTION
      ∷ "  5b0d 0100 0b 0200010000000100"  -- 58 DEFAULT
      ∷ "  5b0a 0200 0b 0100020001"  -- 65 DEFAULT
      ∷ "  5b05 0300 0b"  -- 6f DEFAULT
      ∷ "2902 2902 2902"  -- 74 76 78 END
      ∷ []));
  image = codes "HVS1" ++ hex "0100 0100 0600 000000000000";
  said = asks "defaults 0" ∷ tells "OK 0"
      ∷ asks "defaults 1" ∷ tells "OK 1"
      ∷ asks "page" ∷ tells "FORM 1 #2" ∷ tells "  1 *     1 #3                       [#6, #5]"
      ∷ asks "defaults 2" ∷ tells "OK 1"
      ∷ asks "page" ∷ tells "FORM 1 #2" ∷ tells "  1 *     1 #3                       [#5, #6]"
      ∷ asks "defaults 3" ∷ tells "OK 1"
      ∷ asks "page" ∷ tells "FORM 1 #2" ∷ tells "  1 *     1 #3                       []"
      ∷ [];
  left = codes "HVS2" ++ hex "22222222222222222222222222222222 0100 0100 0600 000000000000";
}

defaults_of_a_list-holds : Holds defaults_of_a_list
unfolding computing
defaults_of_a_list-holds = record {
  stores = (1, hex "000000000000") ∷ [];
  opened = record { sound = refl; spelled = record { form = inr refl; laid = refl } };
  answers = refl;
  ended = refl;
  image = refl;
}

abbrev pub default_comes_before_flags_of_options : Case
default_comes_before_flags_of_options = record usual {
  list = forms_list (opening 2 ++ hexes
      ("0591 0300 0000 0100 0100 0000 00 10 00 00 04"  -- 39 ONE_OF
      ∷ "  0907 0500 30 00 01"  -- 4a ONE_OF_OPTION
      ∷ "  0907 0600 00 00 02"  -- 51 ONE_OF_OPTION
      ∷ "  5b06 0000 00 02"  -- 58 DEFAULT
      ∷ "2902 2902 2902"  -- 5e 60 62 END
      ∷ []));
  image = codes "HVS1" ++ hex "0100 0100 0200 0000";
  said = asks "defaults 0" ∷ tells "OK 1"
      ∷ asks "page" ∷ tells "FORM 1 #2" ∷ tells "  1 *     1 #3                       [<#6>]"
      ∷ asks "defaults 1" ∷ tells "OK 1"
      ∷ asks "page" ∷ tells "FORM 1 #2" ∷ tells "  1 *     1 #3                       [<#5>]"
      ∷ asks "defaults 2" ∷ tells "OK 0"
      ∷ [];
  left = codes "HVS2" ++ hex "22222222222222222222222222222222 0100 0100 0200 0000";
}

default_comes_before_flags_of_options-holds : Holds default_comes_before_flags_of_options
unfolding computing
default_comes_before_flags_of_options-holds = record {
  stores = (1, hex "0000") ∷ [];
  opened = record { sound = refl; spelled = record { form = inr refl; laid = refl } };
  answers = refl;
  ended = refl;
  image = refl;
}

abbrev pub defaults_of_checkboxes : Case
defaults_of_checkboxes = record usual {
  list = forms_list (opening 3 ++ hexes
      ("060e 0300 0000 0100 0100 0000 00 01"  -- 39 CHECKBOX
      ∷ "060e 0400 0000 0200 0100 0100 00 02"  -- 47 CHECKBOX
      ∷ "068e 0500 0000 0300 0100 0200 00 00"  -- 55 CHECKBOX
      ∷ "  5b06 0000 04 00"  -- 63 DEFAULT
      ∷ "2902 2902 2902"  -- 69 6b 6d END
      ∷ []));
  image = codes "HVS1" ++ hex "0100 0100 0300 000001";
  said = asks "defaults 0" ∷ tells "OK 2"
      ∷ asks "submit" ∷ tells "OK 2" ∷ tells "CHANGED 1" ∷ tells "CHANGED 3"
      ∷ asks "defaults 1" ∷ tells "OK 1"
      ∷ asks "defaults 2" ∷ tells "OK 0"
      ∷ asks "submit" ∷ tells "OK 1" ∷ tells "CHANGED 2"
      ∷ [];
  left = codes "HVS2" ++ hex "22222222222222222222222222222222 0100 0100 0300 010100";
}

defaults_of_checkboxes-holds : Holds defaults_of_checkboxes
unfolding computing
defaults_of_checkboxes-holds = record {
  stores = (1, hex "000001") ∷ [];
  opened = record { sound = refl; spelled = record { form = inr refl; laid = refl } };
  answers = refl;
  ended = refl;
  image = refl;
}

abbrev pub default_of_an_option : Case
default_of_an_option = record usual {
  list = forms_list (opening 2 ++ hexes
      ("0591 0300 0000 0100 0100 0000 00 10 00 00 04"  -- 39 ONE_OF
      ∷ "  0907 0500 10 00 01"  -- 4a ONE_OF_OPTION
      ∷ "  0a82"  -- 51 SUPPRESS_IF
      ∷ "    4602"  -- 53 TRUE
      ∷ "    0907 0600 00 00 02"  -- 55 ONE_OF_OPTION
      ∷ "  2902 2902 2902 2902"  -- 5c 5e 60 62 END
      ∷ []));
  image = codes "HVS1" ++ hex "0100 0100 0200 0200";
  said = asks "page" ∷ tells "FORM 1 #2" ∷ tells "  1 *     1 #3                       [<?>]"
      ∷ asks "defaults 1" ∷ tells "OK 0"
      ∷ asks "defaults 0" ∷ tells "OK 1"
      ∷ asks "page" ∷ tells "FORM 1 #2" ∷ tells "  1 *     1 #3                       [<#5>]"
      ∷ asks "defaults 0" ∷ tells "OK 1"
      ∷ [];
  left = codes "HVS2" ++ hex "22222222222222222222222222222222 0100 0100 0200 0200";
}

default_of_an_option-holds : Holds default_of_an_option
unfolding computing
default_of_an_option-holds = record {
  stores = (1, hex "0200") ∷ [];
  opened = record { sound = refl; spelled = record { form = inr refl; laid = refl } };
  answers = refl;
  ended = refl;
  image = refl;
}

abbrev pub default_of_an_option_that_is_fixed : Case
default_of_an_option_that_is_fixed = record usual {
  list = forms_list (opening 2 ++ hexes
      ("0591 0300 0000 0100 0100 0000 00 10 00 00 04"  -- 39 ONE_OF
      ∷ "  0a82"  -- 4a SUPPRESS_IF
      ∷ "    4602"  -- 4c TRUE
      ∷ "    0907 0500 10 00 01"  -- 4e ONE_OF_OPTION
      ∷ "  2902"  -- 55 END
      ∷ "  0907 0600 10 00 02"  -- 57 ONE_OF_OPTION
      ∷ "2902 2902 2902"  -- 5e 60 62 END
      ∷ []));
  image = codes "HVS1" ++ hex "0100 0100 0200 0200";
  said = asks "defaults 0" ∷ tells "OK 0"
      ∷ [];
  left = codes "HVS2" ++ hex "22222222222222222222222222222222 0100 0100 0200 0200";
}

default_of_an_option_that_is_fixed-holds : Holds default_of_an_option_that_is_fixed
unfolding computing
default_of_an_option_that_is_fixed-holds = record {
  stores = (1, hex "0200") ∷ [];
  opened = record { sound = refl; spelled = record { form = inr refl; laid = refl } };
  answers = refl;
  ended = refl;
  image = refl;
}

abbrev pub default_that_gives_nothing_hides_flags : Case
default_that_gives_nothing_hides_flags = record usual {
  list = forms_list (opening 2 ++ hexes
      ("0591 0300 0000 0100 0100 0000 00 10 00 00 04"  -- 39 ONE_OF
      ∷ "  0907 0500 10 00 03"  -- 4a ONE_OF_OPTION
      ∷ "  5b05 0000 0c"  -- 51 DEFAULT
      ∷ "2902 2902 2902"  -- 56 58 5a END
      ∷ []));
  image = codes "HVS1" ++ hex "0100 0100 0200 0000";
  said = asks "defaults 0" ∷ tells "OK 0"
      ∷ [];
  left = codes "HVS2" ++ hex "22222222222222222222222222222222 0100 0100 0200 0000";
}

default_that_gives_nothing_hides_flags-holds : Holds default_that_gives_nothing_hides_flags
unfolding computing
default_that_gives_nothing_hides_flags-holds = record {
  stores = (1, hex "0000") ∷ [];
  opened = record { sound = refl; spelled = record { form = inr refl; laid = refl } };
  answers = refl;
  ended = refl;
  image = refl;
}

-- ---- of a form

abbrev pub defaults_are_set_one_after_the_other : Case
defaults_are_set_one_after_the_other = record usual {
  list = forms_list (opening 4 ++ hexes
      ("068e 0300 0000 0100 0100 0000 00 00"  -- 39 CHECKBOX
      ∷ "  5b06 0000 04 01"  -- 47 DEFAULT
      ∷ "2902"  -- 4d END
      ∷ "0a82"  -- 4f SUPPRESS_IF
      ∷ "  1206 0100 0100"  -- 51 EQ_ID_VAL
      ∷ "  068e 0400 0000 0200 0100 0100 00 00"  -- 57 CHECKBOX
      ∷ "    5b06 0000 04 01"  -- 65 DEFAULT
      ∷ "  2902 2902"  -- 6b 6d END
      ∷ "0a82"  -- 6f SUPPRESS_IF
      ∷ "  1206 0100 0000"  -- 71 EQ_ID_VAL
      ∷ "  068e 0500 0000 0300 0100 0200 00 00"  -- 77 CHECKBOX
      ∷ "    5b06 0000 04 01"  -- 85 DEFAULT
      ∷ "  2902 2902"  -- 8b 8d END
      ∷ "0791 0600 0000 0400 0100 0300 00 10 00 09 04"  -- 8f NUMERIC
      ∷ "  5b85 0000 08"  -- a0 DEFAULT
      ∷ "    5a82"  -- a5 VALUE
      ∷ "      4084 0300"  -- a7 QUESTION_REF1
      ∷ "        4203 06"  -- ab UINT8
      ∷ "        3a02"  -- ae ADD
      ∷ "      2902 2902 2902 2902 2902 2902"  -- b0 b2 b4 b6 b8 ba END
      ∷ []));
  image = codes "HVS1" ++ hex "0100 0100 0400 00000000";
  said = asks "defaults 0" ∷ tells "OK 3"
      ∷ asks "submit" ∷ tells "OK 3" ∷ tells "CHANGED 1" ∷ tells "CHANGED 3" ∷ tells "CHANGED 4"
      ∷ [];
  left = codes "HVS2" ++ hex "22222222222222222222222222222222 0100 0100 0400 01000107";
}

defaults_are_set_one_after_the_other-holds : Holds defaults_are_set_one_after_the_other
unfolding computing
defaults_are_set_one_after_the_other-holds = record {
  stores = (1, hex "00000000") ∷ [];
  opened = record { sound = refl; spelled = record { form = inr refl; laid = refl } };
  answers = refl;
  ended = refl;
  image = refl;
}

abbrev pub denied_default_is_skipped : Case
denied_default_is_skipped = record usual {
  list = forms_list (opening 2 ++ hexes
      ("0791 0300 0000 0100 0100 0000 00 10 00 09 04"  -- 39 NUMERIC
      ∷ "  1184 0700"  -- 4a INCONSISTENT_IF
      ∷ "    1206 0100 0500"  -- 4e EQ_ID_VAL
      ∷ "  2902"  -- 54 END
      ∷ "  5b06 0000 00 05"  -- 56 DEFAULT
      ∷ "  5b06 0100 00 04"  -- 5c DEFAULT
      ∷ "2902"  -- 62 END
      ∷ "068e 0400 0000 0200 0100 0100 00 00"  -- 64 CHECKBOX
      ∷ "  6385 0900 00"  -- 72 WARNING_IF
      ∷ "    4602"  -- 77 TRUE
      ∷ "  2902"  -- 79 END
      ∷ "  5b06 0000 04 01"  -- 7b DEFAULT
      ∷ "2902 2902 2902"  -- 81 83 85 END
      ∷ []));
  image = codes "HVS1" ++ hex "0100 0100 0200 0300";
  said = asks "defaults 0" ∷ tells "OK 1"
      ∷ asks "page"
      ∷ tells "FORM 1 #2"
      ∷ tells "  1 *     1 #3                       [3]"
      ∷ tells "  2 *     2 #4                       [x]"
      ∷ asks "defaults 1" ∷ tells "OK 1"
      ∷ asks "set 1 5" ∷ tells "DENIED inconsistentif at 0000004a #7"
      ∷ asks "submit" ∷ tells "OK 2" ∷ tells "CHANGED 1" ∷ tells "CHANGED 2"
      ∷ [];
  left = codes "HVS2" ++ hex "22222222222222222222222222222222 0100 0100 0200 0401";
}

denied_default_is_skipped-holds : Holds denied_default_is_skipped
unfolding computing
denied_default_is_skipped-holds = record {
  stores = (1, hex "0300") ∷ [];
  opened = record { sound = refl; spelled = record { form = inr refl; laid = refl } };
  answers = refl;
  ended = refl;
  image = refl;
}

abbrev pub defaults_of_the_current_form_alone : Case
defaults_of_the_current_form_alone = record usual {
  list = forms_list (opening 2 ++ hexes
      ("0f0f 0700 0000 0500 0000 0000 00 0200"  -- 39 REF
      ∷ "068e 0300 0000 0100 0100 0000 00 00"  -- 48 CHECKBOX
      ∷ "  5b06 0000 04 01"  -- 56 DEFAULT
      ∷ "2902 2902"  -- 5c 5e END
      ∷ "0186 0200 0900"  -- 60 FORM
      ∷ "  068e 0400 0000 0200 0100 0100 00 00"  -- 66 CHECKBOX
      ∷ "    5b06 0000 04 01"  -- 74 DEFAULT
      ∷ "  2902 2902 2902"  -- 7a 7c 7e END
      ∷ []));
  image = codes "HVS1" ++ hex "0100 0100 0200 0000";
  said = asks "go 5" ∷ tells "OK"
      ∷ asks "defaults 0" ∷ tells "OK 1"
      ∷ asks "back" ∷ tells "OK"
      ∷ asks "submit" ∷ tells "OK 1" ∷ tells "CHANGED 2"
      ∷ [];
  left = codes "HVS2" ++ hex "22222222222222222222222222222222 0100 0100 0200 0001";
}

defaults_of_the_current_form_alone-holds : Holds defaults_of_the_current_form_alone
unfolding computing
defaults_of_the_current_form_alone-holds = record {
  stores = (1, hex "0000") ∷ [];
  opened = record { sound = refl; spelled = record { form = inr refl; laid = refl } };
  answers = refl;
  ended = refl;
  image = refl;
}

abbrev pub defaults_under_a_subtitle_and_of_id_0 : Case
defaults_under_a_subtitle_and_of_id_0 = record usual {
  list = forms_list (opening 2 ++ hexes
      ("0287 1400 0000 00"  -- 39 SUBTITLE
      ∷ "  068e 0200 0000 0000 0100 0000 00 00"  -- 40 CHECKBOX
      ∷ "    5b06 0000 04 01"  -- 4e DEFAULT
      ∷ "  2902 2902"  -- 54 56 END
      ∷ "068e 0400 0000 0200 0100 0100 00 00"  -- 58 CHECKBOX
      ∷ "  5b06 0000 04 01"  -- 66 DEFAULT
      ∷ "2902 2902 2902"  -- 6c 6e 70 END
      ∷ []));
  image = codes "HVS1" ++ hex "0100 0100 0200 0000";
  said = asks "defaults 0" ∷ tells "OK 2"
      ∷ asks "submit" ∷ tells "OK 2" ∷ tells "CHANGED 0" ∷ tells "CHANGED 2"
      ∷ [];
  left = codes "HVS2" ++ hex "22222222222222222222222222222222 0100 0100 0200 0101";
}

defaults_under_a_subtitle_and_of_id_0-holds : Holds defaults_under_a_subtitle_and_of_id_0
unfolding computing
defaults_under_a_subtitle_and_of_id_0-holds = record {
  stores = (1, hex "0000") ∷ [];
  opened = record { sound = refl; spelled = record { form = inr refl; laid = refl } };
  answers = refl;
  ended = refl;
  image = refl;
}

abbrev pub buttons_by_their_rows : Case
buttons_by_their_rows = record usual {
  list = forms_list (opening 2 ++ hexes
      ("068e 0300 0000 0100 0100 0000 00 00"  -- 39 CHECKBOX
      ∷ "  5b06 0000 04 00"  -- 47 DEFAULT
      ∷ "  5b06 0300 04 01"  -- 4d DEFAULT
      ∷ "2902"  -- 53 END
      ∷ "0a82"  -- 55 SUPPRESS_IF
      ∷ "  1206 0100 0100"  -- 57 EQ_ID_VAL
      ∷ "  060e 0400 0000 0200 0100 0100 00 00"  -- 5d CHECKBOX
      ∷ "2902"  -- 6b END
      ∷ "0d08 1400 0000 0300"  -- 6d RESET_BUTTON
      ∷ "0207 1500 0000 00"  -- 75 SUBTITLE
      ∷ "1982"  -- 7c GRAY_OUT_IF
      ∷ "  1206 0100 0100"  -- 7e EQ_ID_VAL
      ∷ "  0d08 1600 0000 0300"  -- 84 RESET_BUTTON
      ∷ "2902"  -- 8c END
      ∷ "0d88 1700 0000 0000"  -- 8e RESET_BUTTON
      ∷ "  0b02"  -- 96 LOCKED
      ∷ "2902 2902 2902"  -- 98 9a 9c END
      ∷ []));
  image = codes "HVS1" ++ hex "0100 0100 0200 0000";
  said = asks "page"
      ∷ tells "FORM 1 #2"
      ∷ tells "  1 *     1 #3                       [ ]"
      ∷ tells "  2 *     2 #4                       [ ]"
      ∷ tells "  3 *     - #20                      [reset]"
      ∷ tells "  4       - #21                      []"
      ∷ tells "  5 *     - #22                      [reset]"
      ∷ tells "  6 !     - #23                      [reset]"
      ∷ asks "press 1" ∷ tells "DENIED notbutton at 00000039"
      ∷ asks "press 2" ∷ tells "DENIED notbutton at 0000005d"
      ∷ asks "press 4" ∷ tells "DENIED notbutton at 00000075"
      ∷ asks "press 6" ∷ tells "DENIED locked at 00000096"
      ∷ asks "press 7" ∷ tells "DENIED norow at 00000000"
      ∷ asks "press 999999999" ∷ tells "DENIED norow at 00000000"
      ∷ asks "press 5" ∷ tells "OK 1"
      ∷ asks "press 3" ∷ tells "DENIED notbutton at 00000075"
      ∷ asks "press 4" ∷ tells "DENIED grayoutif at 0000007c"
      ∷ asks "press 2" ∷ tells "OK 1"
      ∷ asks "submit" ∷ tells "OK 1" ∷ tells "CHANGED 1"
      ∷ [];
  left = codes "HVS2" ++ hex "22222222222222222222222222222222 0100 0100 0200 0100";
}

buttons_by_their_rows-holds : Holds buttons_by_their_rows
unfolding computing
buttons_by_their_rows-holds = record {
  stores = (1, hex "0000") ∷ [];
  opened = record { sound = refl; spelled = record { form = inr refl; laid = refl } };
  answers = refl;
  ended = refl;
  image = refl;
}

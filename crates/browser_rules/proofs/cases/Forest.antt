-- Worked cases of opcodes and their scopes, as tests/rule_cases writes them.
use Rattle.std.proofs.Common.{refl, inr}
use Rattle.std.specs.Prelude.{[], ◌∷◌, ◌++◌, codes}
use Rattle.browser_rules.proofs.CaseWords.{hex, hexes, times, forms_list, opening, asks, tells, Case, usual, Holds}
use Rattle.browser_rules.proofs.cases.Computing.{computing}

-- ---- scopes

abbrev pub sixty_two_guards : Case
sixty_two_guards = record usual {
  list = forms_list (opening 2 ++ times 62 (hexes
      ("0a82"  -- 39 SUPPRESS_IF
      ∷ "4702"  -- 3b FALSE
      ∷ []))
      ++ hexes
      (""  -- 131 CHECKBOX
      ∷ "                                    060e 0300 0000 0100 0100 0000 00 00"
      ∷ [])
      ++ times 64 (hexes
      ("2902"  -- 13f END
      ∷ [])));
  image = codes "HVS1" ++ hex "0100 0100 0200 0000";
  said = asks "page" ∷ tells "FORM 1 #2" ∷ tells "  1 *     1 #3                       [ ]"
      ∷ [];
  left = codes "HVS2" ++ hex "22222222222222222222222222222222 0100 0100 0200 0000";
}

sixty_two_guards-holds : Holds sixty_two_guards
unfolding computing
sixty_two_guards-holds = record {
  stores = (1, hex "0000") ∷ [];
  opened = record { sound = refl; spelled = record { form = inr refl; laid = refl } };
  answers = refl;
  ended = refl;
  image = refl;
}

abbrev pub sixty_four_scopes_are_open : Case
sixty_four_scopes_are_open = record usual {
  list = forms_list (opening 2 ++ times 62 (hexes
      ("0a82"  -- 39 SUPPRESS_IF
      ∷ "1206 0200 0100"  -- 3b EQ_ID_VAL
      ∷ []))
      ++ hexes
      (""  -- 229 CHECKBOX
      ∷ "                                    060e 0300 0000 0100 0100 0000 00 00"
      ∷ [])
      ++ times 64 (hexes
      ("2902"  -- 237 END
      ∷ [])));
  image = codes "HVS1" ++ hex "0100 0100 0200 0000";
  said = asks "page" ∷ tells "FORM 1 #2" ∷ tells "  1 *     1 #3                       [ ]"
      ∷ asks "set 1 1" ∷ tells "OK"
      ∷ [];
  left = codes "HVS2" ++ hex "22222222222222222222222222222222 0100 0100 0200 0000";
}

sixty_four_scopes_are_open-holds : Holds sixty_four_scopes_are_open
unfolding computing
sixty_four_scopes_are_open-holds = record {
  stores = (1, hex "0000") ∷ [];
  opened = record { sound = refl; spelled = record { form = inr refl; laid = refl } };
  answers = refl;
  ended = refl;
  image = refl;
}

abbrev pub sixty_four_values_around_nothing : Case
sixty_four_values_around_nothing = record usual {
  list = forms_list (opening 2 ++ hexes
      ("0a82"  -- 39 SUPPRESS_IF
      ∷ "  5282"  -- 3b ZERO
      ∷ [])
      ++ times 63 (hexes
      ("5202"  -- 3d ZERO
      ∷ []))
      ++ times 63 (hexes
      ("3502"  -- bb BITWISE_AND
      ∷ []))
      ++ hexes
      ("  2902 2902"  -- 139 13b END
      ∷ "060e 0300 0000 0100 0100 0000 00 00"  -- 13d CHECKBOX
      ∷ "2902 2902"  -- 14b 14d END
      ∷ []));
  image = codes "HVS1" ++ hex "0100 0100 0200 0000";
  said = asks "page" ∷ tells "FORM 1 #2" ∷ tells "  1 *     1 #3                       [ ]"
      ∷ [];
  left = codes "HVS2" ++ hex "22222222222222222222222222222222 0100 0100 0200 0000";
}

sixty_four_values_around_nothing-holds : Holds sixty_four_values_around_nothing
unfolding computing
sixty_four_values_around_nothing-holds = record {
  stores = (1, hex "0000") ∷ [];
  opened = record { sound = refl; spelled = record { form = inr refl; laid = refl } };
  answers = refl;
  ended = refl;
  image = refl;
}

-- ---- kinds

abbrev pub statements_of_many_kinds : Case
statements_of_many_kinds = record usual {
  list = forms_list (hexes
      ("0e97 22222222222222222222222222222222 0100 0000 00"  -- 4 FORM_SET
      ∷ "  2418 33333333333333333333333333333333 0100 0200 5600"  -- 1b VARSTORE
      ∷ "  2514 0300 33333333333333333333333333333333"  -- 33 VARSTORE_NAME_VALUE
      ∷ "  0186 0100 0200"  -- 47 FORM
      ∷ "    0207 1400 0000 00"  -- 4d SUBTITLE
      ∷ "    0308 1500 0000 1600"  -- 54 TEXT
      ∷ "    0d08 1700 0000 0000"  -- 5c RESET_BUTTON
      ∷ "    1a0e 0300 0000 0100 0000 0000 00 00"  -- 64 DATE
      ∷ "    1b0e 0400 0000 0200 0000 0000 00 00"  -- 72 TIME
      ∷ "    0c0d 0500 0000 0300 0000 0000 00"  -- 80 ACTION
      ∷ "    0f0f 0600 0000 0400 0000 0000 00 0200"  -- 8d REF
      ∷ "    0f0d 0700 0000 0500 0000 0000 00"  -- 9c REF
      ∷ "    0f21 0800 0000 0600 0000 0000 00 0200 000000000000000000000000000000000000"  -- a9 REF
      ∷ "    0f0f 0900 0000 0700 0000 0000 00 0000"  -- ca REF
      ∷ "    060e 0a00 0000 0800 0000 0000 00 00"  -- d9 CHECKBOX
      ∷ "    0711 0b00 0000 0900 0300 0000 00 10 00 09 04"  -- e7 NUMERIC
      ∷ "    1c10 0c00 0000 0a00 0100 0000 01 00 01 00"  -- f8 STRING
      ∷ "  2902"  -- 108 END
      ∷ "  0186 0200 0200"  -- 10a FORM
      ∷ "  2902 2902"  -- 110 112 END
      ∷ []));
  image = codes "HVS1" ++ hex "0100 0100 0200 4100";
  said = asks "page"
      ∷ tells "FORM 1 #2"
      ∷ tells "  1       - #20                      []"
      ∷ tells "  2       - #21                      [#22]"
      ∷ tells "  3 *     - #23                      [reset]"
      ∷ tells "  4 !     1 #3                       []"
      ∷ tells "  5 !     2 #4                       []"
      ∷ tells "  6 !     3 #5                       []"
      ∷ tells "  7 *     4 #6                       [->2]"
      ∷ tells "  8 !     5 #7                       [->]"
      ∷ tells "  9 !     6 #8                       [->]"
      ∷ tells " 10 !     7 #9                       [->]"
      ∷ tells " 11 !     8 #10                      []"
      ∷ tells " 12 !     9 #11                      []"
      ∷ tells " 13 !    10 #12                      [A]"
      ∷ asks "set 1 1" ∷ tells "DENIED outside at 00000064"
      ∷ asks "set 2 1" ∷ tells "DENIED outside at 00000072"
      ∷ asks "text 3 x" ∷ tells "DENIED outside at 00000080"
      ∷ asks "set 4 1" ∷ tells "DENIED kind at 0000008d"
      ∷ asks "set 5 1" ∷ tells "DENIED outside at 0000009c"
      ∷ asks "set 6 1" ∷ tells "DENIED outside at 000000a9"
      ∷ asks "set 7 1" ∷ tells "DENIED outside at 000000ca"
      ∷ asks "set 8 1" ∷ tells "DENIED outside at 000000d9"
      ∷ asks "set 9 1" ∷ tells "DENIED outside at 000000e7"
      ∷ asks "text 10 B" ∷ tells "DENIED readonly at 000000f8"
      ∷ asks "submit" ∷ tells "OK 0"
      ∷ [];
  left = codes "HVS2" ++ hex "22222222222222222222222222222222 0100 0100 0200 4100";
}

statements_of_many_kinds-holds : Holds statements_of_many_kinds
unfolding computing
statements_of_many_kinds-holds = record {
  stores = (1, hex "4100") ∷ [];
  opened = record { sound = refl; spelled = record { form = inr refl; laid = refl } };
  answers = refl;
  ended = refl;
  image = refl;
}

abbrev pub opcodes_that_are_passed_over : Case
opcodes_that_are_passed_over = record usual {
  list = forms_list (hexes
      ("0e97 22222222222222222222222222222222 0100 0000 00"  -- 4 FORM_SET
      ∷ "  2418 33333333333333333333333333333333 0100 0200 5600"  -- 1b VARSTORE
      ∷ "  5c06 0900 0000"  -- 33 DEFAULTSTORE
      ∷ "  5f12 00000000000000000000000000000000"  -- 39 GUID
      ∷ "  0186 0100 0200"  -- 4b FORM
      ∷ "    6102"  -- 51 MODAL_TAG
      ∷ "    068e 0300 0000 0100 0100 0000 00 00"  -- 53 CHECKBOX
      ∷ "      0404 0100"  -- 61 IMAGE
      ∷ "      5b06 0000 04 01"  -- 65 DEFAULT
      ∷ "      5b85 0100 08"  -- 6b DEFAULT
      ∷ "        5a82"  -- 70 VALUE
      ∷ "          4203 01"  -- 72 UINT8
      ∷ "        2902 2902"  -- 75 77 END
      ∷ "      1d03 05"  -- 79 REFRESH
      ∷ "      6212 00000000000000000000000000000000"  -- 7c REFRESH_ID
      ∷ "    2902"  -- 8e END
      ∷ "    0591 0400 0000 0200 0100 0100 00 10 00 00 04"  -- 90 ONE_OF
      ∷ "      0987 0500 10 00 01"  -- a1 ONE_OF_OPTION
      ∷ "        1f04 0100"  -- a8 ANIMATION
      ∷ "      2902"  -- ac END
      ∷ "      5b05 0000 0c"  -- ae DEFAULT
      ∷ "    2902 2902 2902"  -- b3 b5 b7 END
      ∷ []));
  image = codes "HVS1" ++ hex "0100 0100 0200 0000";
  said = asks "page"
      ∷ tells "FORM 1 #2"
      ∷ tells "  1 *     1 #3                       [ ]"
      ∷ tells "  2 *     2 #4                       [<?>]"
      ∷ asks "set 1 1" ∷ tells "OK"
      ∷ asks "set 2 1" ∷ tells "OK"
      ∷ asks "submit" ∷ tells "OK 2" ∷ tells "CHANGED 1" ∷ tells "CHANGED 2"
      ∷ [];
  left = codes "HVS2" ++ hex "22222222222222222222222222222222 0100 0100 0200 0101";
}

opcodes_that_are_passed_over-holds : Holds opcodes_that_are_passed_over
unfolding computing
opcodes_that_are_passed_over-holds = record {
  stores = (1, hex "0000") ∷ [];
  opened = record { sound = refl; spelled = record { form = inr refl; laid = refl } };
  answers = refl;
  ended = refl;
  image = refl;
}

abbrev pub greatest_ids : Case
greatest_ids = record usual {
  list = forms_list (hexes
      ("0e97 22222222222222222222222222222222 0100 0000 00"  -- 4 FORM_SET
      ∷ "  2418 33333333333333333333333333333333 ffff 0200 5600"  -- 1b VARSTORE
      ∷ "  0186 0100 0200"  -- 33 FORM
      ∷ "    0f0f 0300 0000 0100 0000 0000 00 ffff"  -- 39 REF
      ∷ "  2902"  -- 48 END
      ∷ "  0186 ffff ffff"  -- 4a FORM
      ∷ "    0a82"  -- 50 SUPPRESS_IF
      ∷ "      1206 ffff 0200"  -- 52 EQ_ID_VAL
      ∷ "      068e ffff 0000 ffff ffff 0100 00 00"  -- 58 CHECKBOX
      ∷ "        5b06 ffff 04 01"  -- 66 DEFAULT
      ∷ "      2902 2902"  -- 6c 6e END
      ∷ "    0d08 ffff 0000 ffff"  -- 70 RESET_BUTTON
      ∷ "  2902 2902"  -- 78 7a END
      ∷ []));
  image = codes "HVS1" ++ hex "0100 ffff 0200 0000";
  said = asks "page" ∷ tells "FORM 1 #2" ∷ tells "  1 *     1 #3                       [->65535]"
      ∷ asks "go 1" ∷ tells "OK"
      ∷ asks "page"
      ∷ tells "FORM 65535 #65535"
      ∷ tells "  1 * 65535 #65535                   [ ]"
      ∷ tells "  2 *     - #65535                   [reset]"
      ∷ asks "set 65535 1" ∷ tells "OK"
      ∷ asks "submit" ∷ tells "OK 1" ∷ tells "CHANGED 65535"
      ∷ asks "set 65535 0" ∷ tells "OK"
      ∷ asks "defaults 65534" ∷ tells "OK 0"
      ∷ asks "defaults 65535" ∷ tells "OK 1"
      ∷ asks "page"
      ∷ tells "FORM 65535 #65535"
      ∷ tells "  1 * 65535 #65535                   [x]"
      ∷ tells "  2 *     - #65535                   [reset]"
      ∷ asks "set 65535 0" ∷ tells "OK"
      ∷ asks "press 2" ∷ tells "OK 1"
      ∷ asks "why 65535" ∷ tells "OK"
      ∷ asks "submit" ∷ tells "OK 0"
      ∷ asks "set 65534 1" ∷ tells "DENIED noquestion at 00000000"
      ∷ asks "go 65535" ∷ tells "DENIED notref at 00000058"
      ∷ [];
  left = codes "HVS2" ++ hex "22222222222222222222222222222222 0100 ffff 0200 0001";
}

greatest_ids-holds : Holds greatest_ids
unfolding computing
greatest_ids-holds = record {
  stores = (65535, hex "0000") ∷ [];
  opened = record { sound = refl; spelled = record { form = inr refl; laid = refl } };
  answers = refl;
  ended = refl;
  image = refl;
}

abbrev pub statements_under_a_subtitle : Case
statements_under_a_subtitle = record usual {
  list = forms_list (opening 2 ++ hexes
      ("0287 1400 0000 00"  -- 39 SUBTITLE
      ∷ "  060e 0300 0000 0100 0100 0000 00 00"  -- 40 CHECKBOX
      ∷ "  0287 1500 0000 00"  -- 4e SUBTITLE
      ∷ "    060e 0400 0000 0200 0100 0100 00 00"  -- 55 CHECKBOX
      ∷ "  2902 2902 2902 2902"  -- 63 65 67 69 END
      ∷ []));
  image = codes "HVS1" ++ hex "0100 0100 0200 0000";
  said = asks "set 2 1" ∷ tells "OK"
      ∷ asks "page"
      ∷ tells "FORM 1 #2"
      ∷ tells "  1       - #20                      []"
      ∷ tells "  2 *     1 #3                       [ ]"
      ∷ tells "  3       - #21                      []"
      ∷ tells "  4 *     2 #4                       [x]"
      ∷ [];
  left = codes "HVS2" ++ hex "22222222222222222222222222222222 0100 0100 0200 0000";
}

statements_under_a_subtitle-holds : Holds statements_under_a_subtitle
unfolding computing
statements_under_a_subtitle-holds = record {
  stores = (1, hex "0000") ∷ [];
  opened = record { sound = refl; spelled = record { form = inr refl; laid = refl } };
  answers = refl;
  ended = refl;
  image = refl;
}

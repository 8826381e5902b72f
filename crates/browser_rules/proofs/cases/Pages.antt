-- Worked cases of pages, as tests/rule_cases writes them.
use Rattle.std.proofs.Common.{refl, inr}
use Rattle.std.specs.Prelude.{[], ◌∷◌, ◌++◌, codes}
use Rattle.browser_rules.proofs.CaseWords.{hex, hexes, packed, package_list, forms_list, opening, asks, tells, Case, usual, Holds}
use Rattle.browser_rules.proofs.cases.Computing.{computing}

-- ---- rows

abbrev pub a_hidden_form_has_no_rows : Case
a_hidden_form_has_no_rows = record usual {
  list = forms_list (hexes
      ("0e97 22222222222222222222222222222222 0100 0000 00"  -- 4 FORM_SET
      ∷ "  2418 33333333333333333333333333333333 0100 0200 5600"  -- 1b VARSTORE
      ∷ "  0a82"  -- 33 SUPPRESS_IF
      ∷ "    4602"  -- 35 TRUE
      ∷ "    0186 0100 0200"  -- 37 FORM
      ∷ "      060e 0300 0000 0100 0100 0000 00 00"  -- 3d CHECKBOX
      ∷ "    2902 2902 2902"  -- 4b 4d 4f END
      ∷ []));
  image = codes "HVS1" ++ hex "0100 0100 0200 0000";
  said = asks "page" ∷ tells "FORM 1 #2"
      ∷ asks "why 1" ∷ tells "DENIED suppressif at 00000033"
      ∷ [];
  left = codes "HVS2" ++ hex "22222222222222222222222222222222 0100 0100 0200 0000";
}

a_hidden_form_has_no_rows-holds : Holds a_hidden_form_has_no_rows
unfolding computing
a_hidden_form_has_no_rows-holds = record {
  stores = (1, hex "0000") ∷ [];
  opened = record { sound = refl; spelled = record { form = inr refl; laid = refl } };
  answers = refl;
  ended = refl;
  image = refl;
}

abbrev pub a_locked_text_has_no_mark : Case
a_locked_text_has_no_mark = record usual {
  list = forms_list (opening 2 ++ hexes
      ("0388 0900 0000 0800"  -- 39 TEXT
      ∷ "  0b02"  -- 41 LOCKED
      ∷ "2902 2902 2902"  -- 43 45 47 END
      ∷ []));
  image = codes "HVS1" ++ hex "0100 0100 0200 0000";
  said = asks "page" ∷ tells "FORM 1 #2" ∷ tells "  1       - #9                       [#8]"
      ∷ [];
  left = codes "HVS2" ++ hex "22222222222222222222222222222222 0100 0100 0200 0000";
}

a_locked_text_has_no_mark-holds : Holds a_locked_text_has_no_mark
unfolding computing
a_locked_text_has_no_mark-holds = record {
  stores = (1, hex "0000") ∷ [];
  opened = record { sound = refl; spelled = record { form = inr refl; laid = refl } };
  answers = refl;
  ended = refl;
  image = refl;
}

abbrev pub hidden_subtitle_hides_what_is_under_it : Case
hidden_subtitle_hides_what_is_under_it = record usual {
  list = forms_list (opening 2 ++ hexes
      ("0a82"  -- 39 SUPPRESS_IF
      ∷ "  1206 0200 0100"  -- 3b EQ_ID_VAL
      ∷ "  0287 1400 0000 00"  -- 41 SUBTITLE
      ∷ "    060e 0300 0000 0100 0100 0000 00 00"  -- 48 CHECKBOX
      ∷ "  2902"  -- 56 END
      ∷ "  0d08 1500 0000 0000"  -- 58 RESET_BUTTON
      ∷ "2902"  -- 60 END
      ∷ "060e 0400 0000 0200 0100 0100 00 00"  -- 62 CHECKBOX
      ∷ "2902 2902"  -- 70 72 END
      ∷ []));
  image = codes "HVS1" ++ hex "0100 0100 0200 0001";
  said = asks "page" ∷ tells "FORM 1 #2" ∷ tells "  1 *     2 #4                       [x]"
      ∷ asks "set 1 1" ∷ tells "DENIED suppressif at 00000039"
      ∷ asks "set 2 0" ∷ tells "OK"
      ∷ asks "page"
      ∷ tells "FORM 1 #2"
      ∷ tells "  1       - #20                      []"
      ∷ tells "  2 *     1 #3                       [ ]"
      ∷ tells "  3 *     - #21                      [reset]"
      ∷ tells "  4 *     2 #4                       [ ]"
      ∷ [];
  left = codes "HVS2" ++ hex "22222222222222222222222222222222 0100 0100 0200 0001";
}

hidden_subtitle_hides_what_is_under_it-holds : Holds hidden_subtitle_hides_what_is_under_it
unfolding computing
hidden_subtitle_hides_what_is_under_it-holds = record {
  stores = (1, hex "0001") ∷ [];
  opened = record { sound = refl; spelled = record { form = inr refl; laid = refl } };
  answers = refl;
  ended = refl;
  image = refl;
}

abbrev pub questions_of_id_0 : Case
questions_of_id_0 = record usual {
  list = forms_list (opening 2 ++ hexes
      ("060e 0200 0000 0000 0100 0000 00 00"  -- 39 CHECKBOX
      ∷ "0711 0200 0000 0000 0100 0100 00 10 00 09 04"  -- 47 NUMERIC
      ∷ "2902 2902"  -- 58 5a END
      ∷ []));
  image = codes "HVS1" ++ hex "0100 0100 0200 0107";
  said = asks "page"
      ∷ tells "FORM 1 #2"
      ∷ tells "  1 *     0 #2                       [x]"
      ∷ tells "  2 *     0 #2                       [7]"
      ∷ asks "set 0 1" ∷ tells "DENIED noquestion at 00000000"
      ∷ [];
  left = codes "HVS2" ++ hex "22222222222222222222222222222222 0100 0100 0200 0107";
}

questions_of_id_0-holds : Holds questions_of_id_0
unfolding computing
questions_of_id_0-holds = record {
  stores = (1, hex "0107") ∷ [];
  opened = record { sound = refl; spelled = record { form = inr refl; laid = refl } };
  answers = refl;
  ended = refl;
  image = refl;
}

abbrev pub form_of_id_0_without_texts : Case
form_of_id_0_without_texts = record usual {
  list = forms_list (hexes
      ("0e97 22222222222222222222222222222222 0100 0000 00"  -- 4 FORM_SET
      ∷ "  2418 33333333333333333333333333333333 0100 0200 5600"  -- 1b VARSTORE
      ∷ "  0186 0000 0000"  -- 33 FORM
      ∷ "    060e 0000 0000 0100 0100 0000 00 00"  -- 39 CHECKBOX
      ∷ "    0f0f 0400 0000 0200 0000 0000 00 0000"  -- 47 REF
      ∷ "  2902 2902"  -- 56 58 END
      ∷ []));
  image = codes "HVS1" ++ hex "0100 0100 0200 0000";
  said = asks "page"
      ∷ tells "FORM 0 "
      ∷ tells "  1 *     1                          [ ]"
      ∷ tells "  2 !     2 #4                       [->]"
      ∷ asks "go 2" ∷ tells "DENIED outside at 00000047"
      ∷ asks "set 1 1" ∷ tells "OK"
      ∷ [];
  left = codes "HVS2" ++ hex "22222222222222222222222222222222 0100 0100 0200 0000";
}

form_of_id_0_without_texts-holds : Holds form_of_id_0_without_texts
unfolding computing
form_of_id_0_without_texts-holds = record {
  stores = (1, hex "0000") ∷ [];
  opened = record { sound = refl; spelled = record { form = inr refl; laid = refl } };
  answers = refl;
  ended = refl;
  image = refl;
}

abbrev pub first_option_of_a_value_is_shown : Case
first_option_of_a_value_is_shown = record usual {
  list = forms_list (opening 2 ++ hexes
      ("0591 0300 0000 0100 0100 0000 00 10 00 00 04"  -- 39 ONE_OF
      ∷ "  0907 0700 00 00 01"  -- 4a ONE_OF_OPTION
      ∷ "  0907 0800 00 00 01"  -- 51 ONE_OF_OPTION
      ∷ "  0907 0000 00 00 02"  -- 58 ONE_OF_OPTION
      ∷ "2902 2902 2902"  -- 5f 61 63 END
      ∷ []));
  image = codes "HVS1" ++ hex "0100 0100 0200 0100";
  said = asks "page" ∷ tells "FORM 1 #2" ∷ tells "  1 *     1 #3                       [<#7>]"
      ∷ asks "set 1 2" ∷ tells "OK"
      ∷ asks "page" ∷ tells "FORM 1 #2" ∷ tells "  1 *     1 #3                       [<>]"
      ∷ [];
  left = codes "HVS2" ++ hex "22222222222222222222222222222222 0100 0100 0200 0100";
}

first_option_of_a_value_is_shown-holds : Holds first_option_of_a_value_is_shown
unfolding computing
first_option_of_a_value_is_shown-holds = record {
  stores = (1, hex "0100") ∷ [];
  opened = record { sound = refl; spelled = record { form = inr refl; laid = refl } };
  answers = refl;
  ended = refl;
  image = refl;
}

-- ---- columns

abbrev pub wide_prompt_has_twelve_characters : Case
wide_prompt_has_twelve_characters = record usual {
  list = package_list (packed 4 (hexes
      ("2e000000 34000000"  -- where the texts begin
      ∷ "0000000000000000000000000000000000000000000000000000000000000000"
      ∷ "0100"
      ∷ "656e2d555300"  -- en-US
      ∷ "16030054000000550000002d4e2d4e2d4e2d4e2d4e2d4e2d4e2d4e2d4e2d4e2d4e2d4e2d4e000000"
      ∷ []))
      ++ packed 2 (opening 2 ++ hexes
      ("060e 0300 0000 0100 0100 0000 00 00"  -- 39 CHECKBOX
      ∷ "2902 2902"  -- 47 49 END
      ∷ [])));
  image = codes "HVS1" ++ hex "0100 0100 0200 0000";
  said = asks "page" ∷ tells "FORM 1 U" ∷ tells "  1 *     1 中中中中中中中中中中中中 [ ]"
      ∷ [];
  left = codes "HVS2" ++ hex "22222222222222222222222222222222 0100 0100 0200 0000";
}

wide_prompt_has_twelve_characters-holds : Holds wide_prompt_has_twelve_characters
unfolding computing
wide_prompt_has_twelve_characters-holds = record {
  stores = (1, hex "0000") ∷ [];
  opened = record { sound = refl; spelled = record { form = inr refl; laid = refl } };
  answers = refl;
  ended = refl;
  image = refl;
}

abbrev pub wide_duplicate_has_twelve_characters : Case
wide_duplicate_has_twelve_characters = record usual {
  list = package_list (packed 4 (hexes
      ("2e000000 34000000"  -- where the texts begin
      ∷ "0000000000000000000000000000000000000000000000000000000000000000"
      ∷ "0100"
      ∷ "656e2d555300"  -- en-US
      ∷ "14 2d4e2d4e2d4e2d4e2d4e2d4e2d4e2d4e2d4e2d4e2d4e2d4e2d4e 0000"  -- 1: <4e2d><4e2d><4e2d><4e2d><4e2d><4e2d><4e2d><4e2d><4e2d><4e2d><4e2d><4e2d><4e2d>
      ∷ "22 03"  -- 2 to 4: none
      ∷ "14 00d8f1ff4200 0000"  -- 5: <d800><fff1>B
      ∷ "20 0100"  -- 6: the text of 1
      ∷ "20 0900"  -- 7: the text of 9
      ∷ "00"  -- the end of texts
      ∷ []))
      ++ packed 2 (opening 2 ++ hexes
      ("060e 0600 0000 0400 0100 0000 00 00"  -- 39 CHECKBOX
      ∷ "2902 2902"  -- 47 49 END
      ∷ [])));
  image = codes "HVS1" ++ hex "0100 0100 0200 0000";
  said = asks "page" ∷ tells "FORM 1 #2" ∷ tells "  1 *     4 中中中中中中中中中中中中 [ ]"
      ∷ [];
  left = codes "HVS2" ++ hex "22222222222222222222222222222222 0100 0100 0200 0000";
}

wide_duplicate_has_twelve_characters-holds : Holds wide_duplicate_has_twelve_characters
unfolding computing
wide_duplicate_has_twelve_characters-holds = record {
  stores = (1, hex "0000") ∷ [];
  opened = record { sound = refl; spelled = record { form = inr refl; laid = refl } };
  answers = refl;
  ended = refl;
  image = refl;
}

abbrev pub prompts_are_cut_by_columns : Case
prompts_are_cut_by_columns = record usual {
  list = package_list (packed 4 (hexes
      ("2e000000 34000000"  -- where the texts begin
      ∷ "0000000000000000000000000000000000000000000000000000000000000000"
      ∷ "0100"
      ∷ "656e2d555300"  -- en-US
      ∷ "160500540000002d4e2d4e2d4e2d4e2d4e2d4e2d4e2d4e2d4e2d4e2d4e2d4e2d4e0000610061006100610061"
      ∷ "006100610061006100610061006100610061006100610061006100610061006100610061002d4e6200000061"
      ∷ "0061006100610061006100610061006100610061006100610061006100610061006100610061006100610061"
      ∷ "0061000103010362000000610061006100610061006100610061006100610061006100610061006100610061"
      ∷ "006100610061006100610061006100610061006100610061006100000000"
      ∷ []))
      ++ packed 2 (opening 2 ++ hexes
      ("060e 0300 0000 0100 0100 0000 00 00"  -- 39 CHECKBOX
      ∷ "060e 0400 0000 0200 0100 0000 00 00"  -- 47 CHECKBOX
      ∷ "060e 0500 0000 0300 0100 0000 00 00"  -- 55 CHECKBOX
      ∷ "2902 2902"  -- 63 65 END
      ∷ [])));
  image = codes "HVS1" ++ hex "0100 0100 0200 0000";
  said = asks "page"
      ∷ tells "FORM 1 中中中中中中中中中中中中中"
      ∷ tells "  1 *     1 aaaaaaaaaaaaaaaaaaaaaaa  [ ]"
      ∷ tells "  2 *     2 aaaaaaaaaaaaaaaaaaaaaaaá́ [ ]"
      ∷ tells "  3 *     3 aaaaaaaaaaaaaaaaaaaaaaaa [ ]"
      ∷ [];
  left = codes "HVS2" ++ hex "22222222222222222222222222222222 0100 0100 0200 0000";
}

prompts_are_cut_by_columns-holds : Holds prompts_are_cut_by_columns
unfolding computing
prompts_are_cut_by_columns-holds = record {
  stores = (1, hex "0000") ∷ [];
  opened = record { sound = refl; spelled = record { form = inr refl; laid = refl } };
  answers = refl;
  ended = refl;
  image = refl;
}

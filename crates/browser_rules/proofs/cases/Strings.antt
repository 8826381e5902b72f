-- Worked cases of string packages and languages, as tests/rule_cases writes them.
use Rattle.std.proofs.Common.{refl, inr}
use Rattle.std.specs.Prelude.{[], ◌∷◌, ◌++◌, codes}
use Rattle.browser_rules.proofs.CaseWords.{hex, hexes, packed, package_list, opening, asks, tells, Case, usual, Holds}
use Rattle.browser_rules.proofs.cases.Computing.{computing}

-- ---- texts

abbrev pub texts_of_a_package_of_75_bytes : Case
texts_of_a_package_of_75_bytes = record usual {
  list = package_list (packed 4 (hexes
      ("2e000000 34000000"  -- where the texts begin
      ∷ "0000000000000000000000000000000000000000000000000000000000000000"
      ∷ "0100"
      ∷ "656e2d555300"  -- en-US
      ∷ "14 4100 0000"  -- 1: A
      ∷ "22 03"  -- 2 to 4: none
      ∷ "14 00d8f1ff4200 0000"  -- 5: <d800><fff1>B
      ∷ "20 0100"  -- 6: the text of 1
      ∷ "20 0900"  -- 7: the text of 9
      ∷ "00"  -- the end of texts
      ∷ []))
      ++ packed 2 (opening 2 ++ hexes
      ("0207 0100 0000 00"  -- 39 SUBTITLE
      ∷ "0207 0200 0000 00"  -- 40 SUBTITLE
      ∷ "0207 0300 0000 00"  -- 47 SUBTITLE
      ∷ "0207 0400 0000 00"  -- 4e SUBTITLE
      ∷ "0207 0500 0000 00"  -- 55 SUBTITLE
      ∷ "0207 0600 0000 00"  -- 5c SUBTITLE
      ∷ "0207 0700 0000 00"  -- 63 SUBTITLE
      ∷ "0207 0800 0000 00"  -- 6a SUBTITLE
      ∷ "2902 2902"  -- 71 73 END
      ∷ [])));
  image = codes "HVS1" ++ hex "0100 0100 0200 0000";
  said = asks "page"
      ∷ tells "FORM 1 #2"
      ∷ tells "  1       - A                        []"
      ∷ tells "  2       - #2                       []"
      ∷ tells "  3       - #3                       []"
      ∷ tells "  4       - #4                       []"
      ∷ tells "  5       - �B                       []"
      ∷ tells "  6       - A                        []"
      ∷ tells "  7       - #7                       []"
      ∷ tells "  8       - #8                       []"
      ∷ [];
  left = codes "HVS2" ++ hex "22222222222222222222222222222222 0100 0100 0200 0000";
}

texts_of_a_package_of_75_bytes-holds : Holds texts_of_a_package_of_75_bytes
unfolding computing
texts_of_a_package_of_75_bytes-holds = record {
  stores = (1, hex "0000") ∷ [];
  opened = record { sound = refl; spelled = record { form = inr refl; laid = refl } };
  answers = refl;
  ended = refl;
  image = refl;
}

abbrev pub each_id_has_its_text : Case
each_id_has_its_text = record usual {
  list = package_list (packed 4 (hexes
      ("2e000000 34000000"  -- where the texts begin
      ∷ "0000000000000000000000000000000000000000000000000000000000000000"
      ∷ "0100"
      ∷ "656e2d555300"  -- en-US
      ∷ "14 4100 0000"  -- 1: A
      ∷ "22 03"  -- 2 to 4: none
      ∷ "14 00d8f1ff4200 0000"  -- 5: <d800><fff1>B
      ∷ "20 0100"  -- 6: the text of 1
      ∷ "20 0900"  -- 7: the text of 9
      ∷ "00"  -- the end of texts
      ∷ []))
      ++ packed 2 (opening 2 ++ hexes
      ("060e 0300 0000 0100 0100 0000 00 00"  -- 39 CHECKBOX
      ∷ "060e 0400 0000 0200 0100 0000 00 00"  -- 47 CHECKBOX
      ∷ "060e 0500 0000 0300 0100 0000 00 00"  -- 55 CHECKBOX
      ∷ "060e 0600 0000 0400 0100 0000 00 00"  -- 63 CHECKBOX
      ∷ "060e 0700 0000 0500 0100 0000 00 00"  -- 71 CHECKBOX
      ∷ "060e 0800 0000 0600 0100 0000 00 00"  -- 7f CHECKBOX
      ∷ "060e 0900 0000 0700 0100 0000 00 00"  -- 8d CHECKBOX
      ∷ "2902 2902"  -- 9b 9d END
      ∷ [])));
  image = codes "HVS1" ++ hex "0100 0100 0200 0000";
  said = asks "page"
      ∷ tells "FORM 1 #2"
      ∷ tells "  1 *     1 #3                       [ ]"
      ∷ tells "  2 *     2 #4                       [ ]"
      ∷ tells "  3 *     3 �B                       [ ]"
      ∷ tells "  4 *     4 A                        [ ]"
      ∷ tells "  5 *     5 #7                       [ ]"
      ∷ tells "  6 *     6 #8                       [ ]"
      ∷ tells "  7 *     7 #9                       [ ]"
      ∷ [];
  left = codes "HVS2" ++ hex "22222222222222222222222222222222 0100 0100 0200 0000";
}

each_id_has_its_text-holds : Holds each_id_has_its_text
unfolding computing
each_id_has_its_text-holds = record {
  stores = (1, hex "0000") ∷ [];
  opened = record { sound = refl; spelled = record { form = inr refl; laid = refl } };
  answers = refl;
  ended = refl;
  image = refl;
}

abbrev pub controls_are_spaces : Case
controls_are_spaces = record usual {
  list = package_list (packed 4 (hexes
      ("2e000000 34000000"  -- where the texts begin
      ∷ "0000000000000000000000000000000000000000000000000000000000000000"
      ∷ "0100"
      ∷ "656e2d555300"  -- en-US
      ∷ "160400540000006100090062007f009f006300000000e0fffff0fff2ff78000000000000"
      ∷ []))
      ++ packed 2 (opening 2 ++ hexes
      ("060e 0300 0000 0100 0100 0000 00 00"  -- 39 CHECKBOX
      ∷ "060e 0400 0000 0200 0100 0000 00 00"  -- 47 CHECKBOX
      ∷ "2902 2902"  -- 55 57 END
      ∷ [])));
  image = codes "HVS1" ++ hex "0100 0100 0200 0000";
  said = asks "page"
      ∷ tells "FORM 1 a b  c"
      ∷ tells "  1 *     1 \u{e000}\u{ffff}x                      [ ]"
      ∷ tells "  2 *     2                          [ ]"
      ∷ [];
  left = codes "HVS2" ++ hex "22222222222222222222222222222222 0100 0100 0200 0000";
}

controls_are_spaces-holds : Holds controls_are_spaces
unfolding computing
controls_are_spaces-holds = record {
  stores = (1, hex "0000") ∷ [];
  opened = record { sound = refl; spelled = record { form = inr refl; laid = refl } };
  answers = refl;
  ended = refl;
  image = refl;
}

abbrev pub prompt_is_a_duplicate : Case
prompt_is_a_duplicate = record usual {
  list = package_list (packed 4 (hexes
      ("2e000000 34000000"  -- where the texts begin
      ∷ "0000000000000000000000000000000000000000000000000000000000000000"
      ∷ "0100"
      ∷ "656e2d555300"  -- en-US
      ∷ "14 4100 0000"  -- 1: A
      ∷ "22 03"  -- 2 to 4: none
      ∷ "14 00d8f1ff4200 0000"  -- 5: <d800><fff1>B
      ∷ "20 0100"  -- 6: the text of 1
      ∷ "20 0900"  -- 7: the text of 9
      ∷ "00"  -- the end of texts
      ∷ []))
      ++ packed 2 (opening 2 ++ hexes
      ("060e 0600 0000 0400 0100 0000 00 00"  -- 39 CHECKBOX
      ∷ "2902 2902"  -- 47 49 END
      ∷ [])));
  image = codes "HVS1" ++ hex "0100 0100 0200 0000";
  said = asks "page" ∷ tells "FORM 1 #2" ∷ tells "  1 *     4 A                        [ ]"
      ∷ [];
  left = codes "HVS2" ++ hex "22222222222222222222222222222222 0100 0100 0200 0000";
}

prompt_is_a_duplicate-holds : Holds prompt_is_a_duplicate
unfolding computing
prompt_is_a_duplicate-holds = record {
  stores = (1, hex "0000") ∷ [];
  opened = record { sound = refl; spelled = record { form = inr refl; laid = refl } };
  answers = refl;
  ended = refl;
  image = refl;
}

abbrev pub texts_of_values : Case
texts_of_values = record usual {
  list = package_list (packed 4 (hexes
      ("2e000000 34000000"  -- where the texts begin
      ∷ "0000000000000000000000000000000000000000000000000000000000000000"
      ∷ "0100"
      ∷ "656e2d555300"  -- en-US
      ∷ "16060000004600000041002000630068006f0069006300650000006200620062006200620062006200620062"
      ∷ "0062006200620062006200620062006200620062006200620062006200620062006200620062006200620000"
      ∷ "004600690072007300740000005300650063006f006e006400000000"
      ∷ []))
      ++ packed 4 (hexes
      ("2e000000 31000000"  -- where the texts begin
      ∷ "0000000000000000000000000000000000000000000000000000000000000000"
      ∷ "0100"
      ∷ "667200"  -- fr
      ∷ "160600000000000000000055006e0000004400650075007800000000"
      ∷ []))
      ++ packed 2 (opening 2 ++ hexes
      ("0308 0400 0000 0400"  -- 39 TEXT
      ∷ "0591 0300 0000 0100 0100 0000 00 10 00 00 04"  -- 41 ONE_OF
      ∷ "  0907 0500 00 00 01"  -- 52 ONE_OF_OPTION
      ∷ "  0907 0600 00 00 02"  -- 59 ONE_OF_OPTION
      ∷ "2902 2902 2902"  -- 60 62 64 END
      ∷ [])));
  image = codes "HVS1" ++ hex "0100 0100 0200 0100";
  said = asks "page"
      ∷ tells "FORM 1 F"
      ∷ tells "  1       - bbbbbbbbbbbbbbbbbbbbbbbb [bbbbbbbbbbbbbbbbbbbbbbbbbbbbbb]"
      ∷ tells "  2 *     1 A choice                 [<First>]"
      ∷ asks "set 1 2" ∷ tells "OK"
      ∷ asks "lang fr" ∷ tells "OK"
      ∷ asks "page"
      ∷ tells "FORM 1 "
      ∷ tells "  1       -                          []"
      ∷ tells "  2 *     1                          [<Deux>]"
      ∷ [];
  left = codes "HVS2" ++ hex "22222222222222222222222222222222 0100 0100 0200 0100";
}

texts_of_values-holds : Holds texts_of_values
unfolding computing
texts_of_values-holds = record {
  stores = (1, hex "0100") ∷ [];
  opened = record { sound = refl; spelled = record { form = inr refl; laid = refl } };
  answers = refl;
  ended = refl;
  image = refl;
}

abbrev pub first_text_of_two_packages_in_en : Case
first_text_of_two_packages_in_en = record usual {
  list = package_list (packed 4 (hexes
      ("2e000000 31000000"  -- where the texts begin
      ∷ "0000000000000000000000000000000000000000000000000000000000000000"
      ∷ "0100"
      ∷ "667200"  -- fr
      ∷ "14 4600 0000"  -- 1: F
      ∷ "00"  -- the end of texts
      ∷ []))
      ++ packed 4 (hexes
      ("2e000000 34000000"  -- where the texts begin
      ∷ "0000000000000000000000000000000000000000000000000000000000000000"
      ∷ "0100"
      ∷ "656e2d555300"  -- en-US
      ∷ "14 4100 0000"  -- 1: A
      ∷ "22 03"  -- 2 to 4: none
      ∷ "14 00d8f1ff4200 0000"  -- 5: <d800><fff1>B
      ∷ "20 0100"  -- 6: the text of 1
      ∷ "20 0900"  -- 7: the text of 9
      ∷ "00"  -- the end of texts
      ∷ []))
      ++ packed 2 (opening 2 ++ hexes
      ("0207 0100 0000 00"  -- 39 SUBTITLE
      ∷ "2902 2902"  -- 40 42 END
      ∷ [])));
  language = "en";
  image = codes "HVS1" ++ hex "0100 0100 0200 0000";
  said = asks "page" ∷ tells "FORM 1 #2" ∷ tells "  1       - A                        []"
      ∷ [];
  left = codes "HVS2" ++ hex "22222222222222222222222222222222 0100 0100 0200 0000";
}

first_text_of_two_packages_in_en-holds : Holds first_text_of_two_packages_in_en
unfolding computing
first_text_of_two_packages_in_en-holds = record {
  stores = (1, hex "0000") ∷ [];
  opened = record { sound = refl; spelled = record { form = inr refl; laid = refl } };
  answers = refl;
  ended = refl;
  image = refl;
}

abbrev pub first_text_of_two_packages_in_en_us : Case
first_text_of_two_packages_in_en_us = record usual {
  list = package_list (packed 4 (hexes
      ("2e000000 31000000"  -- where the texts begin
      ∷ "0000000000000000000000000000000000000000000000000000000000000000"
      ∷ "0100"
      ∷ "667200"  -- fr
      ∷ "14 4600 0000"  -- 1: F
      ∷ "00"  -- the end of texts
      ∷ []))
      ++ packed 4 (hexes
      ("2e000000 34000000"  -- where the texts begin
      ∷ "0000000000000000000000000000000000000000000000000000000000000000"
      ∷ "0100"
      ∷ "656e2d555300"  -- en-US
      ∷ "14 4100 0000"  -- 1: A
      ∷ "22 03"  -- 2 to 4: none
      ∷ "14 00d8f1ff4200 0000"  -- 5: <d800><fff1>B
      ∷ "20 0100"  -- 6: the text of 1
      ∷ "20 0900"  -- 7: the text of 9
      ∷ "00"  -- the end of texts
      ∷ []))
      ++ packed 2 (opening 2 ++ hexes
      ("0207 0100 0000 00"  -- 39 SUBTITLE
      ∷ "2902 2902"  -- 40 42 END
      ∷ [])));
  language = "EN-us";
  image = codes "HVS1" ++ hex "0100 0100 0200 0000";
  said = asks "page" ∷ tells "FORM 1 #2" ∷ tells "  1       - A                        []"
      ∷ [];
  left = codes "HVS2" ++ hex "22222222222222222222222222222222 0100 0100 0200 0000";
}

first_text_of_two_packages_in_en_us-holds : Holds first_text_of_two_packages_in_en_us
unfolding computing
first_text_of_two_packages_in_en_us-holds = record {
  stores = (1, hex "0000") ∷ [];
  opened = record { sound = refl; spelled = record { form = inr refl; laid = refl } };
  answers = refl;
  ended = refl;
  image = refl;
}

abbrev pub first_text_of_two_packages_in_de : Case
first_text_of_two_packages_in_de = record usual {
  list = package_list (packed 4 (hexes
      ("2e000000 31000000"  -- where the texts begin
      ∷ "0000000000000000000000000000000000000000000000000000000000000000"
      ∷ "0100"
      ∷ "667200"  -- fr
      ∷ "14 4600 0000"  -- 1: F
      ∷ "00"  -- the end of texts
      ∷ []))
      ++ packed 4 (hexes
      ("2e000000 34000000"  -- where the texts begin
      ∷ "0000000000000000000000000000000000000000000000000000000000000000"
      ∷ "0100"
      ∷ "656e2d555300"  -- en-US
      ∷ "14 4100 0000"  -- 1: A
      ∷ "22 03"  -- 2 to 4: none
      ∷ "14 00d8f1ff4200 0000"  -- 5: <d800><fff1>B
      ∷ "20 0100"  -- 6: the text of 1
      ∷ "20 0900"  -- 7: the text of 9
      ∷ "00"  -- the end of texts
      ∷ []))
      ++ packed 2 (opening 2 ++ hexes
      ("0207 0100 0000 00"  -- 39 SUBTITLE
      ∷ "2902 2902"  -- 40 42 END
      ∷ [])));
  language = "de";
  image = codes "HVS1" ++ hex "0100 0100 0200 0000";
  said = asks "page" ∷ tells "FORM 1 #2" ∷ tells "  1       - F                        []"
      ∷ [];
  left = codes "HVS2" ++ hex "22222222222222222222222222222222 0100 0100 0200 0000";
}

first_text_of_two_packages_in_de-holds : Holds first_text_of_two_packages_in_de
unfolding computing
first_text_of_two_packages_in_de-holds = record {
  stores = (1, hex "0000") ∷ [];
  opened = record { sound = refl; spelled = record { form = inr refl; laid = refl } };
  answers = refl;
  ended = refl;
  image = refl;
}

-- ---- languages

abbrev pub language_by_case : Case
language_by_case = record usual {
  list = package_list (packed 4 (hexes
      ("2e000000 31000000"  -- where the texts begin
      ∷ "0000000000000000000000000000000000000000000000000000000000000000"
      ∷ "0100"
      ∷ "667200"  -- fr
      ∷ "160300000046003200000046003300000000"
      ∷ []))
      ++ packed 4 (hexes
      ("2e000000 34000000"  -- where the texts begin
      ∷ "0000000000000000000000000000000000000000000000000000000000000000"
      ∷ "0100"
      ∷ "656e2d555300"  -- en-US
      ∷ "160200000045003200000000"
      ∷ []))
      ++ packed 2 (opening 2 ++ hexes
      ("060e 0300 0000 0100 0100 0000 00 00"  -- 39 CHECKBOX
      ∷ "2902 2902"  -- 47 49 END
      ∷ [])));
  language = "EN-us";
  image = codes "HVS1" ++ hex "0100 0100 0200 0000";
  said = asks "page" ∷ tells "FORM 1 E2" ∷ tells "  1 *     1 F3                       [ ]"
      ∷ [];
  left = codes "HVS2" ++ hex "22222222222222222222222222222222 0100 0100 0200 0000";
}

language_by_case-holds : Holds language_by_case
unfolding computing
language_by_case-holds = record {
  stores = (1, hex "0000") ∷ [];
  opened = record { sound = refl; spelled = record { form = inr refl; laid = refl } };
  answers = refl;
  ended = refl;
  image = refl;
}

abbrev pub language_by_case_before_primary_subtag : Case
language_by_case_before_primary_subtag = record usual {
  list = package_list (packed 4 (hexes
      ("2e000000 34000000"  -- where the texts begin
      ∷ "0000000000000000000000000000000000000000000000000000000000000000"
      ∷ "0100"
      ∷ "656e2d474200"  -- en-GB
      ∷ "160300000047003200000047003300000000"
      ∷ []))
      ++ packed 4 (hexes
      ("2e000000 34000000"  -- where the texts begin
      ∷ "0000000000000000000000000000000000000000000000000000000000000000"
      ∷ "0100"
      ∷ "656e2d555300"  -- en-US
      ∷ "160300000041003200000041003300000000"
      ∷ []))
      ++ packed 2 (opening 2 ++ hexes
      ("060e 0300 0000 0100 0100 0000 00 00"  -- 39 CHECKBOX
      ∷ "2902 2902"  -- 47 49 END
      ∷ [])));
  language = "EN-us";
  image = codes "HVS1" ++ hex "0100 0100 0200 0000";
  said = asks "page" ∷ tells "FORM 1 A2" ∷ tells "  1 *     1 A3                       [ ]"
      ∷ [];
  left = codes "HVS2" ++ hex "22222222222222222222222222222222 0100 0100 0200 0000";
}

language_by_case_before_primary_subtag-holds : Holds language_by_case_before_primary_subtag
unfolding computing
language_by_case_before_primary_subtag-holds = record {
  stores = (1, hex "0000") ∷ [];
  opened = record { sound = refl; spelled = record { form = inr refl; laid = refl } };
  answers = refl;
  ended = refl;
  image = refl;
}

abbrev pub language_by_primary_subtag : Case
language_by_primary_subtag = record usual {
  list = package_list (packed 4 (hexes
      ("2e000000 31000000"  -- where the texts begin
      ∷ "0000000000000000000000000000000000000000000000000000000000000000"
      ∷ "0100"
      ∷ "667200"  -- fr
      ∷ "160300000046003200000046003300000000"
      ∷ []))
      ++ packed 4 (hexes
      ("2e000000 34000000"  -- where the texts begin
      ∷ "0000000000000000000000000000000000000000000000000000000000000000"
      ∷ "0100"
      ∷ "656e2d555300"  -- en-US
      ∷ "160200000045003200000000"
      ∷ []))
      ++ packed 2 (opening 2 ++ hexes
      ("060e 0300 0000 0100 0100 0000 00 00"  -- 39 CHECKBOX
      ∷ "2902 2902"  -- 47 49 END
      ∷ [])));
  language = "en";
  image = codes "HVS1" ++ hex "0100 0100 0200 0000";
  said = asks "page" ∷ tells "FORM 1 E2" ∷ tells "  1 *     1 F3                       [ ]"
      ∷ [];
  left = codes "HVS2" ++ hex "22222222222222222222222222222222 0100 0100 0200 0000";
}

language_by_primary_subtag-holds : Holds language_by_primary_subtag
unfolding computing
language_by_primary_subtag-holds = record {
  stores = (1, hex "0000") ∷ [];
  opened = record { sound = refl; spelled = record { form = inr refl; laid = refl } };
  answers = refl;
  ended = refl;
  image = refl;
}

abbrev pub language_by_french : Case
language_by_french = record usual {
  list = package_list (packed 4 (hexes
      ("2e000000 31000000"  -- where the texts begin
      ∷ "0000000000000000000000000000000000000000000000000000000000000000"
      ∷ "0100"
      ∷ "667200"  -- fr
      ∷ "160300000046003200000046003300000000"
      ∷ []))
      ++ packed 4 (hexes
      ("2e000000 34000000"  -- where the texts begin
      ∷ "0000000000000000000000000000000000000000000000000000000000000000"
      ∷ "0100"
      ∷ "656e2d555300"  -- en-US
      ∷ "160200000045003200000000"
      ∷ []))
      ++ packed 2 (opening 2 ++ hexes
      ("060e 0300 0000 0100 0100 0000 00 00"  -- 39 CHECKBOX
      ∷ "2902 2902"  -- 47 49 END
      ∷ [])));
  language = "FR-ca";
  image = codes "HVS1" ++ hex "0100 0100 0200 0000";
  said = asks "page" ∷ tells "FORM 1 F2" ∷ tells "  1 *     1 F3                       [ ]"
      ∷ [];
  left = codes "HVS2" ++ hex "22222222222222222222222222222222 0100 0100 0200 0000";
}

language_by_french-holds : Holds language_by_french
unfolding computing
language_by_french-holds = record {
  stores = (1, hex "0000") ∷ [];
  opened = record { sound = refl; spelled = record { form = inr refl; laid = refl } };
  answers = refl;
  ended = refl;
  image = refl;
}

abbrev pub language_by_unknown : Case
language_by_unknown = record usual {
  list = package_list (packed 4 (hexes
      ("2e000000 31000000"  -- where the texts begin
      ∷ "0000000000000000000000000000000000000000000000000000000000000000"
      ∷ "0100"
      ∷ "667200"  -- fr
      ∷ "160300000046003200000046003300000000"
      ∷ []))
      ++ packed 4 (hexes
      ("2e000000 34000000"  -- where the texts begin
      ∷ "0000000000000000000000000000000000000000000000000000000000000000"
      ∷ "0100"
      ∷ "656e2d555300"  -- en-US
      ∷ "160200000045003200000000"
      ∷ []))
      ++ packed 2 (opening 2 ++ hexes
      ("060e 0300 0000 0100 0100 0000 00 00"  -- 39 CHECKBOX
      ∷ "2902 2902"  -- 47 49 END
      ∷ [])));
  language = "de";
  image = codes "HVS1" ++ hex "0100 0100 0200 0000";
  said = asks "page" ∷ tells "FORM 1 F2" ∷ tells "  1 *     1 F3                       [ ]"
      ∷ [];
  left = codes "HVS2" ++ hex "22222222222222222222222222222222 0100 0100 0200 0000";
}

language_by_unknown-holds : Holds language_by_unknown
unfolding computing
language_by_unknown-holds = record {
  stores = (1, hex "0000") ∷ [];
  opened = record { sound = refl; spelled = record { form = inr refl; laid = refl } };
  answers = refl;
  ended = refl;
  image = refl;
}

abbrev pub language_by_hyphen : Case
language_by_hyphen = record usual {
  list = package_list (packed 4 (hexes
      ("2e000000 31000000"  -- where the texts begin
      ∷ "0000000000000000000000000000000000000000000000000000000000000000"
      ∷ "0100"
      ∷ "667200"  -- fr
      ∷ "160300000046003200000046003300000000"
      ∷ []))
      ++ packed 4 (hexes
      ("2e000000 34000000"  -- where the texts begin
      ∷ "0000000000000000000000000000000000000000000000000000000000000000"
      ∷ "0100"
      ∷ "656e2d555300"  -- en-US
      ∷ "160200000045003200000000"
      ∷ []))
      ++ packed 2 (opening 2 ++ hexes
      ("060e 0300 0000 0100 0100 0000 00 00"  -- 39 CHECKBOX
      ∷ "2902 2902"  -- 47 49 END
      ∷ [])));
  language = "-x";
  image = codes "HVS1" ++ hex "0100 0100 0200 0000";
  said = asks "page" ∷ tells "FORM 1 F2" ∷ tells "  1 *     1 F3                       [ ]"
      ∷ [];
  left = codes "HVS2" ++ hex "22222222222222222222222222222222 0100 0100 0200 0000";
}

language_by_hyphen-holds : Holds language_by_hyphen
unfolding computing
language_by_hyphen-holds = record {
  stores = (1, hex "0000") ∷ [];
  opened = record { sound = refl; spelled = record { form = inr refl; laid = refl } };
  answers = refl;
  ended = refl;
  image = refl;
}

abbrev pub language_is_changed : Case
language_is_changed = record usual {
  list = package_list (packed 4 (hexes
      ("2e000000 31000000"  -- where the texts begin
      ∷ "0000000000000000000000000000000000000000000000000000000000000000"
      ∷ "0100"
      ∷ "667200"  -- fr
      ∷ "160300000046003200000046003300000000"
      ∷ []))
      ++ packed 4 (hexes
      ("2e000000 34000000"  -- where the texts begin
      ∷ "0000000000000000000000000000000000000000000000000000000000000000"
      ∷ "0100"
      ∷ "656e2d555300"  -- en-US
      ∷ "160200000045003200000000"
      ∷ []))
      ++ packed 2 (opening 2 ++ hexes
      ("060e 0300 0000 0100 0100 0000 00 00"  -- 39 CHECKBOX
      ∷ "2902 2902"  -- 47 49 END
      ∷ [])));
  image = codes "HVS1" ++ hex "0100 0100 0200 0000";
  said = asks "lang fr" ∷ tells "OK"
      ∷ asks "page" ∷ tells "FORM 1 F2" ∷ tells "  1 *     1 F3                       [ ]"
      ∷ asks "lang EN" ∷ tells "OK"
      ∷ asks "page" ∷ tells "FORM 1 E2" ∷ tells "  1 *     1 F3                       [ ]"
      ∷ asks "lang de" ∷ tells "OK"
      ∷ asks "page" ∷ tells "FORM 1 F2" ∷ tells "  1 *     1 F3                       [ ]"
      ∷ [];
  left = codes "HVS2" ++ hex "22222222222222222222222222222222 0100 0100 0200 0000";
}

language_is_changed-holds : Holds language_is_changed
unfolding computing
language_is_changed-holds = record {
  stores = (1, hex "0000") ∷ [];
  opened = record { sound = refl; spelled = record { form = inr refl; laid = refl } };
  answers = refl;
  ended = refl;
  image = refl;
}

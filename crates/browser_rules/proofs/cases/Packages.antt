-- Worked cases of package lists, as tests/rule_cases writes them.
use Rattle.std.proofs.Common.{refl, inr}
use Rattle.std.specs.Prelude.{[], ◌∷◌, ◌++◌, codes}
use Rattle.browser_rules.proofs.CaseWords.{hex, hexes, packed, package_list, forms_list, opening, asks, tells, Case, usual, Holds}
use Rattle.browser_rules.proofs.cases.Computing.{computing}

-- ---- what a list has

abbrev pub box_is_set_and_submitted : Case
box_is_set_and_submitted = record usual {
  list = forms_list (opening 2 ++ hexes
      ("060e 0300 0000 0100 0100 0000 00 00"  -- 39 CHECKBOX
      ∷ "2902 2902"  -- 47 49 END
      ∷ []));
  image = codes "HVS1" ++ hex "0100 0100 0200 0000";
  said = asks "page" ∷ tells "FORM 1 #2" ∷ tells "  1 *     1 #3                       [ ]"
      ∷ asks "set 1 1" ∷ tells "OK"
      ∷ asks "submit" ∷ tells "OK 1" ∷ tells "CHANGED 1"
      ∷ [];
  left = codes "HVS2" ++ hex "22222222222222222222222222222222 0100 0100 0200 0100";
}

box_is_set_and_submitted-holds : Holds box_is_set_and_submitted
unfolding computing
box_is_set_and_submitted-holds = record {
  stores = (1, hex "0000") ∷ [];
  opened = record { sound = refl; spelled = record { form = inr refl; laid = refl } };
  answers = refl;
  ended = refl;
  image = refl;
}

abbrev pub bytes_behind_the_list_do_not_count : Case
bytes_behind_the_list_do_not_count = record usual {
  list = hexes
      ("11111111111111111111111111111111"
      ∷ "63000000"  -- how long the list is
      ∷ "4b0000 02"  -- a forms package
      ∷ [])
      ++ opening 2
      ++ hexes
      ("060e 0300 0000 0100 0100 0000 00 00"  -- 39 CHECKBOX
      ∷ "2902 2902"  -- 47 49 END
      ∷ "040000 df"  -- the end package
      ∷ "6d6f7265"  -- behind the list
      ∷ []);
  image = codes "HVS1" ++ hex "0100 0100 0200 0000";
  said = asks "page" ∷ tells "FORM 1 #2" ∷ tells "  1 *     1 #3                       [ ]"
      ∷ [];
  left = codes "HVS2" ++ hex "22222222222222222222222222222222 0100 0100 0200 0000";
}

bytes_behind_the_list_do_not_count-holds : Holds bytes_behind_the_list_do_not_count
unfolding computing
bytes_behind_the_list_do_not_count-holds = record {
  stores = (1, hex "0000") ∷ [];
  opened = record { sound = refl; spelled = record { form = inr refl; laid = refl } };
  answers = refl;
  ended = refl;
  image = refl;
}

abbrev pub other_language_and_forms_package : Case
other_language_and_forms_package = record usual {
  list = package_list (packed 2 (hexes
      ("0e97 22222222222222222222222222222222 0100 0000 00"  -- 4 FORM_SET
      ∷ "2902"  -- 1b END
      ∷ []))
      ++ packed 2 (opening 2 ++ hexes
      ("060e 0300 0000 0100 0100 0000 00 00"  -- 39 CHECKBOX
      ∷ "2902 2902"  -- 47 49 END
      ∷ [])));
  number = 2;
  language = "fr";
  image = codes "HVS1" ++ hex "0100 0100 0200 0000";
  said = asks "page" ∷ tells "FORM 1 #2" ∷ tells "  1 *     1 #3                       [ ]"
      ∷ [];
  left = codes "HVS2" ++ hex "22222222222222222222222222222222 0100 0100 0200 0000";
}

other_language_and_forms_package-holds : Holds other_language_and_forms_package
unfolding computing
other_language_and_forms_package-holds = record {
  stores = (1, hex "0000") ∷ [];
  opened = record { sound = refl; spelled = record { form = inr refl; laid = refl } };
  answers = refl;
  ended = refl;
  image = refl;
}

abbrev pub forms_may_stand_before_strings : Case
forms_may_stand_before_strings = record usual {
  list = package_list (packed 2 (opening 2 ++ hexes
      ("060e 0300 0000 0100 0100 0000 00 00"  -- 39 CHECKBOX
      ∷ "2902 2902"  -- 47 49 END
      ∷ []))
      ++ packed 4 (hexes
      ("2e000000 31000000"  -- where the texts begin
      ∷ "0000000000000000000000000000000000000000000000000000000000000000"
      ∷ "0100"
      ∷ "667200"  -- fr
      ∷ "160300000046003200000046003300000000"
      ∷ [])));
  image = codes "HVS1" ++ hex "0100 0100 0200 0000";
  said = asks "page" ∷ tells "FORM 1 F2" ∷ tells "  1 *     1 F3                       [ ]"
      ∷ [];
  left = codes "HVS2" ++ hex "22222222222222222222222222222222 0100 0100 0200 0000";
}

forms_may_stand_before_strings-holds : Holds forms_may_stand_before_strings
unfolding computing
forms_may_stand_before_strings-holds = record {
  stores = (1, hex "0000") ∷ [];
  opened = record { sound = refl; spelled = record { form = inr refl; laid = refl } };
  answers = refl;
  ended = refl;
  image = refl;
}

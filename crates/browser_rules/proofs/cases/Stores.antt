-- Worked cases of stores and their images, as tests/rule_cases writes them.
use Rattle.std.proofs.Common.{refl, inl, inr}
use Rattle.std.specs.Prelude.{[], ◌∷◌, ◌++◌, codes}
use Rattle.browser_rules.proofs.CaseWords.{hex, hexes, forms_list, opening, asks, tells, Case, usual, Holds}
use Rattle.browser_rules.proofs.cases.Computing.{computing}

-- ---- images

abbrev pub empty_script_writes_the_image : Case
empty_script_writes_the_image = record usual {
  list = forms_list (opening 2 ++ hexes
      ("060e 0300 0000 0100 0100 0000 00 00"  -- 39 CHECKBOX
      ∷ "2902 2902"  -- 47 49 END
      ∷ []));
  image = codes "HVS1" ++ hex "0100 0100 0200 0000";
  said = [];
  left = codes "HVS2" ++ hex "22222222222222222222222222222222 0100 0100 0200 0000";
}

empty_script_writes_the_image-holds : Holds empty_script_writes_the_image
unfolding computing
empty_script_writes_the_image-holds = record {
  stores = (1, hex "0000") ∷ [];
  opened = record { sound = refl; spelled = record { form = inr refl; laid = refl } };
  answers = refl;
  ended = refl;
  image = refl;
}

abbrev pub written_image_is_read : Case
written_image_is_read = record usual {
  list = forms_list (opening 2 ++ hexes
      ("060e 0300 0000 0100 0100 0000 00 00"  -- 39 CHECKBOX
      ∷ "2902 2902"  -- 47 49 END
      ∷ []));
  image = codes "HVS2" ++ hex "22222222222222222222222222222222 0100 0100 0200 0100";
  said = asks "page" ∷ tells "FORM 1 #2" ∷ tells "  1 *     1 #3                       [x]"
      ∷ asks "set 1 0" ∷ tells "OK"
      ∷ asks "submit" ∷ tells "OK 1" ∷ tells "CHANGED 1"
      ∷ [];
  left = codes "HVS2" ++ hex "22222222222222222222222222222222 0100 0100 0200 0000";
}

written_image_is_read-holds : Holds written_image_is_read
unfolding computing
written_image_is_read-holds = record {
  stores = (1, hex "0100") ∷ [];
  opened = record { sound = refl; spelled = record { form = inl refl; laid = refl } };
  answers = refl;
  ended = refl;
  image = refl;
}

abbrev pub unsubmitted_change_is_not_written : Case
unsubmitted_change_is_not_written = record usual {
  list = forms_list (opening 2 ++ hexes
      ("060e 0300 0000 0100 0100 0000 00 00"  -- 39 CHECKBOX
      ∷ "2902 2902"  -- 47 49 END
      ∷ []));
  image = codes "HVS1" ++ hex "0100 0100 0200 0000";
  said = asks "set 1 1" ∷ tells "OK"
      ∷ asks "page" ∷ tells "FORM 1 #2" ∷ tells "  1 *     1 #3                       [x]"
      ∷ [];
  left = codes "HVS2" ++ hex "22222222222222222222222222222222 0100 0100 0200 0000";
}

unsubmitted_change_is_not_written-holds : Holds unsubmitted_change_is_not_written
unfolding computing
unsubmitted_change_is_not_written-holds = record {
  stores = (1, hex "0000") ∷ [];
  opened = record { sound = refl; spelled = record { form = inr refl; laid = refl } };
  answers = refl;
  ended = refl;
  image = refl;
}

abbrev pub stores_of_all_kinds : Case
stores_of_all_kinds = record usual {
  list = forms_list (hexes
      ("0e97 22222222222222222222222222222222 0100 0000 00"  -- 4 FORM_SET
      ∷ "  2418 33333333333333333333333333333333 0100 0200 5600"  -- 1b VARSTORE
      ∷ "  2514 0500 33333333333333333333333333333333"  -- 33 VARSTORE_NAME_VALUE
      ∷ "  0a82"  -- 47 SUPPRESS_IF
      ∷ "    4602"  -- 49 TRUE
      ∷ "    261c 0700 33333333333333333333333333333333 07000000 0300 5600"  -- 4b VARSTORE_EFI
      ∷ "  2902"  -- 67 END
      ∷ "  0186 0100 0200"  -- 69 FORM
      ∷ "    060e 0300 0000 0100 0100 0000 00 00"  -- 6f CHECKBOX
      ∷ "    060e 0400 0000 0200 0700 0200 00 00"  -- 7d CHECKBOX
      ∷ "  2902 2902"  -- 8b 8d END
      ∷ []));
  image = codes "HVS1" ++ hex "0200 0100 0200 0000 0700 0300 000000";
  said = asks "set 2 1" ∷ tells "OK"
      ∷ asks "submit" ∷ tells "OK 1" ∷ tells "CHANGED 2"
      ∷ [];
  left = codes "HVS2" ++ hex "22222222222222222222222222222222 0200 0100 0200 0000 0700 0300 000001";
}

stores_of_all_kinds-holds : Holds stores_of_all_kinds
unfolding computing
stores_of_all_kinds-holds = record {
  stores = (1, hex "0000") ∷ (7, hex "000000") ∷ [];
  opened = record { sound = refl; spelled = record { form = inr refl; laid = refl } };
  answers = refl;
  ended = refl;
  image = refl;
}

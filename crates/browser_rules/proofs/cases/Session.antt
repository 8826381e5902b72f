-- Worked cases of commands that are carried out, as tests/rule_cases writes them.
use Rattle.std.proofs.Common.{refl, inr}
use Rattle.std.specs.Prelude.{[], ◌∷◌, ◌++◌, codes}
use Rattle.browser_rules.proofs.CaseWords.{hex, hexes, times, packed, package_list, forms_list, opening, asks, tells, Case, usual, Holds}
use Rattle.browser_rules.proofs.cases.Computing.{computing}

-- ---- changes

abbrev pub no_such_question : Case
no_such_question = record usual {
  list = forms_list (opening 2 ++ hexes
      ("060e 0300 0000 0100 0100 0000 00 00"  -- 39 CHECKBOX
      ∷ "2902 2902"  -- 47 49 END
      ∷ []));
  image = codes "HVS1" ++ hex "0100 0100 0200 0000";
  said = asks "set 9 1" ∷ tells "DENIED noquestion at 00000000"
      ∷ asks "set 0 1" ∷ tells "DENIED noquestion at 00000000"
      ∷ [];
  left = codes "HVS2" ++ hex "22222222222222222222222222222222 0100 0100 0200 0000";
}

no_such_question-holds : Holds no_such_question
unfolding computing
no_such_question-holds = record {
  stores = (1, hex "0000") ∷ [];
  opened = record { sound = refl; spelled = record { form = inr refl; laid = refl } };
  answers = refl;
  ended = refl;
  image = refl;
}

abbrev pub all_changed_questions_are_named : Case
all_changed_questions_are_named = record usual {
  list = forms_list (opening 2 ++ hexes
      ("0a82"  -- 39 SUPPRESS_IF
      ∷ "  1206 0200 0100"  -- 3b EQ_ID_VAL
      ∷ "  060e 0300 0000 0100 0100 0000 00 00"  -- 41 CHECKBOX
      ∷ "2902"  -- 4f END
      ∷ "060e 0400 0000 0200 0100 0100 00 00"  -- 51 CHECKBOX
      ∷ "2902 2902"  -- 5f 61 END
      ∷ []));
  image = codes "HVS1" ++ hex "0100 0100 0200 0000";
  said = asks "set 1 1" ∷ tells "OK"
      ∷ asks "set 2 1" ∷ tells "OK"
      ∷ asks "page" ∷ tells "FORM 1 #2" ∷ tells "  1 *     2 #4                       [x]"
      ∷ asks "submit" ∷ tells "OK 2" ∷ tells "CHANGED 1" ∷ tells "CHANGED 2"
      ∷ [];
  left = codes "HVS2" ++ hex "22222222222222222222222222222222 0100 0100 0200 0101";
}

all_changed_questions_are_named-holds : Holds all_changed_questions_are_named
unfolding computing
all_changed_questions_are_named-holds = record {
  stores = (1, hex "0000") ∷ [];
  opened = record { sound = refl; spelled = record { form = inr refl; laid = refl } };
  answers = refl;
  ended = refl;
  image = refl;
}

abbrev pub set_to_the_same_changes_nothing : Case
set_to_the_same_changes_nothing = record usual {
  list = forms_list (opening 2 ++ hexes
      ("060e 0300 0000 0100 0100 0000 00 00"  -- 39 CHECKBOX
      ∷ "2902 2902"  -- 47 49 END
      ∷ []));
  image = codes "HVS1" ++ hex "0100 0100 0200 0000";
  said = asks "set 1 0x0" ∷ tells "OK"
      ∷ asks "submit" ∷ tells "OK 0"
      ∷ [];
  left = codes "HVS2" ++ hex "22222222222222222222222222222222 0100 0100 0200 0000";
}

set_to_the_same_changes_nothing-holds : Holds set_to_the_same_changes_nothing
unfolding computing
set_to_the_same_changes_nothing-holds = record {
  stores = (1, hex "0000") ∷ [];
  opened = record { sound = refl; spelled = record { form = inr refl; laid = refl } };
  answers = refl;
  ended = refl;
  image = refl;
}

abbrev pub discarded_change_is_gone : Case
discarded_change_is_gone = record usual {
  list = forms_list (opening 2 ++ hexes
      ("060e 0300 0000 0100 0100 0000 00 00"  -- 39 CHECKBOX
      ∷ "2902 2902"  -- 47 49 END
      ∷ []));
  image = codes "HVS1" ++ hex "0100 0100 0200 0000";
  said = asks "set 1 1" ∷ tells "OK"
      ∷ asks "discard" ∷ tells "OK"
      ∷ asks "page" ∷ tells "FORM 1 #2" ∷ tells "  1 *     1 #3                       [ ]"
      ∷ asks "submit" ∷ tells "OK 0"
      ∷ [];
  left = codes "HVS2" ++ hex "22222222222222222222222222222222 0100 0100 0200 0000";
}

discarded_change_is_gone-holds : Holds discarded_change_is_gone
unfolding computing
discarded_change_is_gone-holds = record {
  stores = (1, hex "0000") ∷ [];
  opened = record { sound = refl; spelled = record { form = inr refl; laid = refl } };
  answers = refl;
  ended = refl;
  image = refl;
}

abbrev pub discard_goes_back_to_the_last_submit : Case
discard_goes_back_to_the_last_submit = record usual {
  list = forms_list (opening 2 ++ hexes
      ("060e 0300 0000 0100 0100 0000 00 00"  -- 39 CHECKBOX
      ∷ "2902 2902"  -- 47 49 END
      ∷ []));
  image = codes "HVS1" ++ hex "0100 0100 0200 0000";
  said = asks "set 1 1" ∷ tells "OK"
      ∷ asks "submit" ∷ tells "OK 1" ∷ tells "CHANGED 1"
      ∷ asks "set 1 0" ∷ tells "OK"
      ∷ asks "discard" ∷ tells "OK"
      ∷ asks "submit" ∷ tells "OK 0"
      ∷ asks "page" ∷ tells "FORM 1 #2" ∷ tells "  1 *     1 #3                       [x]"
      ∷ [];
  left = codes "HVS2" ++ hex "22222222222222222222222222222222 0100 0100 0200 0100";
}

discard_goes_back_to_the_last_submit-holds : Holds discard_goes_back_to_the_last_submit
unfolding computing
discard_goes_back_to_the_last_submit-holds = record {
  stores = (1, hex "0000") ∷ [];
  opened = record { sound = refl; spelled = record { form = inr refl; laid = refl } };
  answers = refl;
  ended = refl;
  image = refl;
}

abbrev pub denials_and_warnings_in_the_language : Case
denials_and_warnings_in_the_language = record usual {
  list = package_list (packed 4 (hexes
      ("2e000000 31000000"  -- where the texts begin
      ∷ "0000000000000000000000000000000000000000000000000000000000000000"
      ∷ "0100"
      ∷ "656e00"  -- en
      ∷ "1605000000000000004e006f0000004d0069006e006400000000"
      ∷ []))
      ++ packed 4 (hexes
      ("2e000000 31000000"  -- where the texts begin
      ∷ "0000000000000000000000000000000000000000000000000000000000000000"
      ∷ "0100"
      ∷ "646500"  -- de
      ∷ "1605000000000000004e00650069006e0000004f0062006100630068007400000000"
      ∷ []))
      ++ packed 2 (opening 2 ++ hexes
      ("068e 0300 0000 0100 0100 0000 00 00"  -- 39 CHECKBOX
      ∷ "  1184 0400"  -- 47 INCONSISTENT_IF
      ∷ "    1206 0100 0000"  -- 4b EQ_ID_VAL
      ∷ "  2902"  -- 51 END
      ∷ "  6385 0500 00"  -- 53 WARNING_IF
      ∷ "    4602"  -- 58 TRUE
      ∷ "  2902 2902 2902 2902"  -- 5a 5c 5e 60 END
      ∷ [])));
  image = codes "HVS1" ++ hex "0100 0100 0200 0000";
  said = asks "set 1 0" ∷ tells "DENIED inconsistentif at 00000047 No"
      ∷ asks "set 1 1" ∷ tells "OK" ∷ tells "WARNING at 00000053 Mind"
      ∷ asks "lang de" ∷ tells "OK"
      ∷ asks "set 1 0" ∷ tells "DENIED inconsistentif at 00000047 Nein"
      ∷ asks "set 1 1" ∷ tells "OK" ∷ tells "WARNING at 00000053 Obacht"
      ∷ [];
  left = codes "HVS2" ++ hex "22222222222222222222222222222222 0100 0100 0200 0000";
}

denials_and_warnings_in_the_language-holds : Holds denials_and_warnings_in_the_language
unfolding computing
denials_and_warnings_in_the_language-holds = record {
  stores = (1, hex "0000") ∷ [];
  opened = record { sound = refl; spelled = record { form = inr refl; laid = refl } };
  answers = refl;
  ended = refl;
  image = refl;
}

abbrev pub all_commands : Case
all_commands = record usual {
  list = forms_list (opening 8 ++ hexes
      ("068e 0300 0000 0100 0100 0000 00 00"  -- 39 CHECKBOX
      ∷ "  5b06 0000 04 01"  -- 47 DEFAULT
      ∷ "2902"  -- 4d END
      ∷ "238f 0400 0000 0200 0100 0100 00 02 00"  -- 4f ORDERED_LIST
      ∷ "  0907 0500 00 00 01"  -- 5e ONE_OF_OPTION
      ∷ "  0907 0600 00 00 02"  -- 65 ONE_OF_OPTION
      ∷ "2902"  -- 6c END
      ∷ "1c10 0500 0000 0300 0100 0300 00 00 02 00"  -- 6e STRING
      ∷ "0d08 1400 0000 0000"  -- 7e RESET_BUTTON
      ∷ "0f0f 0600 0000 0400 0000 0000 00 0200"  -- 86 REF
      ∷ "2902"  -- 95 END
      ∷ "0186 0200 0200"  -- 97 FORM
      ∷ "  060e 0700 0000 0500 0100 0700 00 00"  -- 9d CHECKBOX
      ∷ "2902 2902"  -- ab ad END
      ∷ []));
  image = codes "HVS1" ++ hex "0100 0100 0800 0000000000000000";
  said = asks "page"
      ∷ tells "FORM 1 #2"
      ∷ tells "  1 *     1 #3                       [ ]"
      ∷ tells "  2 *     2 #4                       []"
      ∷ tells "  3 *     3 #5                       []"
      ∷ tells "  4 *     - #20                      [reset]"
      ∷ tells "  5 *     4 #6                       [->2]"
      ∷ asks "set 1 1" ∷ tells "OK"
      ∷ asks "order 2 2,1" ∷ tells "OK"
      ∷ asks "text 3 ab" ∷ tells "OK"
      ∷ asks "why 1" ∷ tells "OK"
      ∷ asks "submit" ∷ tells "OK 3" ∷ tells "CHANGED 1" ∷ tells "CHANGED 2" ∷ tells "CHANGED 3"
      ∷ asks "press 4" ∷ tells "OK 1"
      ∷ asks "defaults 0" ∷ tells "OK 1"
      ∷ asks "go 4" ∷ tells "OK"
      ∷ asks "route @&OFFSET=7&WIDTH=1&VALUE=1" ∷ tells "OK 1"
      ∷ asks "page" ∷ tells "FORM 2 #2" ∷ tells "  1 *     5 #7                       [x]"
      ∷ asks "extract @" ∷ tells "CONFIG @&OFFSET=0000&WIDTH=0008&VALUE=0000620061010201"
      ∷ asks "discard" ∷ tells "OK"
      ∷ asks "lang de" ∷ tells "OK"
      ∷ asks "back" ∷ tells "OK"
      ∷ asks "page"
      ∷ tells "FORM 1 #2"
      ∷ tells "  1 *     1 #3                       [x]"
      ∷ tells "  2 *     2 #4                       [#6, #5]"
      ∷ tells "  3 *     3 #5                       [ab]"
      ∷ tells "  4 *     - #20                      [reset]"
      ∷ tells "  5 *     4 #6                       [->2]"
      ∷ [];
  left = codes "HVS2" ++ hex "22222222222222222222222222222222 0100 0100 0800 0102016100620000";
}

all_commands-holds : Holds all_commands
unfolding computing
all_commands-holds = record {
  stores = (1, hex "0000000000000000") ∷ [];
  opened = record { sound = refl; spelled = record { form = inr refl; laid = refl } };
  answers = refl;
  ended = refl;
  image = refl;
}

-- ---- forms

abbrev pub to_the_second_form_and_back : Case
to_the_second_form_and_back = record usual {
  list = forms_list (opening 2 ++ hexes
      ("0f0f 0800 0000 0500 0000 0000 00 0200"  -- 39 REF
      ∷ "2902"  -- 48 END
      ∷ "0186 0200 0900"  -- 4a FORM
      ∷ "  0d08 0a00 0000 0000"  -- 50 RESET_BUTTON
      ∷ "  060e 0300 0000 0100 0100 0000 00 01"  -- 58 CHECKBOX
      ∷ "2902 2902"  -- 66 68 END
      ∷ []));
  image = codes "HVS1" ++ hex "0100 0100 0200 0000";
  said = asks "page" ∷ tells "FORM 1 #2" ∷ tells "  1 *     5 #8                       [->2]"
      ∷ asks "defaults 0" ∷ tells "OK 0"
      ∷ asks "go 5" ∷ tells "OK"
      ∷ asks "page"
      ∷ tells "FORM 2 #9"
      ∷ tells "  1 *     - #10                      [reset]"
      ∷ tells "  2 *     1 #3                       [ ]"
      ∷ asks "press 1" ∷ tells "OK 1"
      ∷ asks "press 2" ∷ tells "DENIED notbutton at 00000058"
      ∷ asks "press 3" ∷ tells "DENIED norow at 00000000"
      ∷ asks "back" ∷ tells "OK"
      ∷ asks "back" ∷ tells "DENIED noback at 00000000"
      ∷ [];
  left = codes "HVS2" ++ hex "22222222222222222222222222222222 0100 0100 0200 0000";
}

to_the_second_form_and_back-holds : Holds to_the_second_form_and_back
unfolding computing
to_the_second_form_and_back-holds = record {
  stores = (1, hex "0000") ∷ [];
  opened = record { sound = refl; spelled = record { form = inr refl; laid = refl } };
  answers = refl;
  ended = refl;
  image = refl;
}

abbrev pub form_is_entered_and_left : Case
form_is_entered_and_left = record usual {
  list = forms_list (opening 2 ++ hexes
      ("0f0f 0700 0000 0500 0000 0000 00 0200"  -- 39 REF
      ∷ "2902"  -- 48 END
      ∷ "0186 0200 0900"  -- 4a FORM
      ∷ "  0d08 0a00 0000 0000"  -- 50 RESET_BUTTON
      ∷ "  060e 0300 0000 0100 0100 0000 00 01"  -- 58 CHECKBOX
      ∷ "2902 2902"  -- 66 68 END
      ∷ []));
  image = codes "HVS1" ++ hex "0100 0100 0200 0000";
  said = asks "page" ∷ tells "FORM 1 #2" ∷ tells "  1 *     5 #7                       [->2]"
      ∷ asks "back" ∷ tells "DENIED noback at 00000000"
      ∷ asks "defaults 0" ∷ tells "OK 0"
      ∷ asks "go 5" ∷ tells "OK"
      ∷ asks "page"
      ∷ tells "FORM 2 #9"
      ∷ tells "  1 *     - #10                      [reset]"
      ∷ tells "  2 *     1 #3                       [ ]"
      ∷ asks "press 1" ∷ tells "OK 1"
      ∷ asks "page"
      ∷ tells "FORM 2 #9"
      ∷ tells "  1 *     - #10                      [reset]"
      ∷ tells "  2 *     1 #3                       [x]"
      ∷ asks "press 2" ∷ tells "DENIED notbutton at 00000058"
      ∷ asks "press 3" ∷ tells "DENIED norow at 00000000"
      ∷ asks "press 0" ∷ tells "DENIED norow at 00000000"
      ∷ asks "back" ∷ tells "OK"
      ∷ asks "back" ∷ tells "DENIED noback at 00000000"
      ∷ asks "page" ∷ tells "FORM 1 #2" ∷ tells "  1 *     5 #7                       [->2]"
      ∷ asks "submit" ∷ tells "OK 1" ∷ tells "CHANGED 1"
      ∷ [];
  left = codes "HVS2" ++ hex "22222222222222222222222222222222 0100 0100 0200 0100";
}

form_is_entered_and_left-holds : Holds form_is_entered_and_left
unfolding computing
form_is_entered_and_left-holds = record {
  stores = (1, hex "0000") ∷ [];
  opened = record { sound = refl; spelled = record { form = inr refl; laid = refl } };
  answers = refl;
  ended = refl;
  image = refl;
}

abbrev pub first_of_two_forms_thirty_two_times : Case
first_of_two_forms_thirty_two_times = record usual {
  list = forms_list (opening 2 ++ hexes
      ("0f0f 0800 0000 0500 0000 0000 00 0100"  -- 39 REF
      ∷ "2902"  -- 48 END
      ∷ "0186 0200 0900"  -- 4a FORM
      ∷ "  0d08 0a00 0000 0000"  -- 50 RESET_BUTTON
      ∷ "  060e 0300 0000 0100 0100 0000 00 01"  -- 58 CHECKBOX
      ∷ "2902 2902"  -- 66 68 END
      ∷ []));
  image = codes "HVS1" ++ hex "0100 0100 0200 0000";
  said = times 32 (asks "go 5" ∷ tells "OK" ∷ []) ++ (asks "go 5" ∷ tells "DENIED deephistory at 00000000"
      ∷ []);
  left = codes "HVS2" ++ hex "22222222222222222222222222222222 0100 0100 0200 0000";
}

first_of_two_forms_thirty_two_times-holds : Holds first_of_two_forms_thirty_two_times
unfolding computing
first_of_two_forms_thirty_two_times-holds = record {
  stores = (1, hex "0000") ∷ [];
  opened = record { sound = refl; spelled = record { form = inr refl; laid = refl } };
  answers = refl;
  ended = refl;
  image = refl;
}

abbrev pub thirty_two_forms_are_kept : Case
thirty_two_forms_are_kept = record usual {
  list = forms_list (opening 2 ++ hexes
      ("0f0f 0700 0000 0500 0000 0000 00 0100"  -- 39 REF
      ∷ "2902 2902"  -- 48 4a END
      ∷ []));
  image = codes "HVS1" ++ hex "0100 0100 0200 0000";
  said = times 32 (asks "go 5" ∷ tells "OK" ∷ []) ++ (asks "go 5" ∷ tells "DENIED deephistory at 00000000"
      ∷ asks "back" ∷ tells "OK"
      ∷ asks "back" ∷ tells "OK"
      ∷ asks "go 5" ∷ tells "OK"
      ∷ asks "go 5" ∷ tells "OK"
      ∷ asks "go 5" ∷ tells "DENIED deephistory at 00000000"
      ∷ [])
      ++ times 32 (asks "back" ∷ tells "OK" ∷ [])
      ++ (asks "back" ∷ tells "DENIED noback at 00000000"
      ∷ []);
  left = codes "HVS2" ++ hex "22222222222222222222222222222222 0100 0100 0200 0000";
}

thirty_two_forms_are_kept-holds : Holds thirty_two_forms_are_kept
unfolding computing
thirty_two_forms_are_kept-holds = record {
  stores = (1, hex "0000") ∷ [];
  opened = record { sound = refl; spelled = record { form = inr refl; laid = refl } };
  answers = refl;
  ended = refl;
  image = refl;
}

abbrev pub last_form_comes_back_first : Case
last_form_comes_back_first = record usual {
  list = forms_list (opening 2 ++ hexes
      ("0f0f 0700 0000 0500 0000 0000 00 0200"  -- 39 REF
      ∷ "2902"  -- 48 END
      ∷ "0186 0200 0900"  -- 4a FORM
      ∷ "  0f0f 0800 0000 0600 0000 0000 00 0100"  -- 50 REF
      ∷ "  0f0f 0900 0000 0700 0000 0000 00 0200"  -- 5f REF
      ∷ "2902 2902"  -- 6e 70 END
      ∷ []));
  image = codes "HVS1" ++ hex "0100 0100 0200 0000";
  said = asks "go 5" ∷ tells "OK"
      ∷ asks "go 7" ∷ tells "OK"
      ∷ asks "go 6" ∷ tells "OK"
      ∷ asks "page" ∷ tells "FORM 1 #2" ∷ tells "  1 *     5 #7                       [->2]"
      ∷ asks "back" ∷ tells "OK"
      ∷ asks "page"
      ∷ tells "FORM 2 #9"
      ∷ tells "  1 *     6 #8                       [->1]"
      ∷ tells "  2 *     7 #9                       [->2]"
      ∷ asks "back" ∷ tells "OK"
      ∷ asks "back" ∷ tells "OK"
      ∷ asks "page" ∷ tells "FORM 1 #2" ∷ tells "  1 *     5 #7                       [->2]"
      ∷ asks "back" ∷ tells "DENIED noback at 00000000"
      ∷ [];
  left = codes "HVS2" ++ hex "22222222222222222222222222222222 0100 0100 0200 0000";
}

last_form_comes_back_first-holds : Holds last_form_comes_back_first
unfolding computing
last_form_comes_back_first-holds = record {
  stores = (1, hex "0000") ∷ [];
  opened = record { sound = refl; spelled = record { form = inr refl; laid = refl } };
  answers = refl;
  ended = refl;
  image = refl;
}

abbrev pub hidden_form_is_not_entered : Case
hidden_form_is_not_entered = record usual {
  list = forms_list (opening 2 ++ hexes
      ("0f0f 0700 0000 0500 0000 0000 00 0200"  -- 39 REF
      ∷ "060e 0300 0000 0100 0100 0000 00 00"  -- 48 CHECKBOX
      ∷ "2902"  -- 56 END
      ∷ "0a82"  -- 58 SUPPRESS_IF
      ∷ "  1206 0100 0100"  -- 5a EQ_ID_VAL
      ∷ "  0186 0200 0900"  -- 60 FORM
      ∷ "    0f0f 0800 0000 0600 0000 0000 00 0100"  -- 66 REF
      ∷ "  2902 2902 2902"  -- 75 77 79 END
      ∷ []));
  image = codes "HVS1" ++ hex "0100 0100 0200 0100";
  said = asks "go 5" ∷ tells "DENIED suppressif at 00000058"
      ∷ asks "back" ∷ tells "DENIED noback at 00000000"
      ∷ asks "set 1 0" ∷ tells "OK"
      ∷ asks "go 5" ∷ tells "OK"
      ∷ asks "set 1 1" ∷ tells "OK"
      ∷ asks "page" ∷ tells "FORM 2 #9"
      ∷ asks "press 1" ∷ tells "DENIED norow at 00000000"
      ∷ asks "defaults 0" ∷ tells "OK 0"
      ∷ asks "go 6" ∷ tells "DENIED suppressif at 00000058"
      ∷ asks "back" ∷ tells "OK"
      ∷ asks "back" ∷ tells "DENIED noback at 00000000"
      ∷ [];
  left = codes "HVS2" ++ hex "22222222222222222222222222222222 0100 0100 0200 0100";
}

hidden_form_is_not_entered-holds : Holds hidden_form_is_not_entered
unfolding computing
hidden_form_is_not_entered-holds = record {
  stores = (1, hex "0100") ∷ [];
  opened = record { sound = refl; spelled = record { form = inr refl; laid = refl } };
  answers = refl;
  ended = refl;
  image = refl;
}

abbrev pub hidden_form_comes_back : Case
hidden_form_comes_back = record usual {
  list = forms_list (hexes
      ("0e97 22222222222222222222222222222222 0100 0000 00"  -- 4 FORM_SET
      ∷ "  2418 33333333333333333333333333333333 0100 0200 5600"  -- 1b VARSTORE
      ∷ "  0a82"  -- 33 SUPPRESS_IF
      ∷ "    1206 0100 0100"  -- 35 EQ_ID_VAL
      ∷ "    0186 0100 0200"  -- 3b FORM
      ∷ "      0f0f 0700 0000 0500 0000 0000 00 0200"  -- 41 REF
      ∷ "    2902 2902"  -- 50 52 END
      ∷ "  0186 0200 0900"  -- 54 FORM
      ∷ "    060e 0300 0000 0100 0100 0000 00 00"  -- 5a CHECKBOX
      ∷ "  2902 2902"  -- 68 6a END
      ∷ []));
  image = codes "HVS1" ++ hex "0100 0100 0200 0000";
  said = asks "go 5" ∷ tells "OK"
      ∷ asks "set 1 1" ∷ tells "OK"
      ∷ asks "page" ∷ tells "FORM 2 #9" ∷ tells "  1 *     1 #3                       [x]"
      ∷ asks "back" ∷ tells "OK"
      ∷ asks "page" ∷ tells "FORM 1 #2"
      ∷ [];
  left = codes "HVS2" ++ hex "22222222222222222222222222222222 0100 0100 0200 0000";
}

hidden_form_comes_back-holds : Holds hidden_form_comes_back
unfolding computing
hidden_form_comes_back-holds = record {
  stores = (1, hex "0000") ∷ [];
  opened = record { sound = refl; spelled = record { form = inr refl; laid = refl } };
  answers = refl;
  ended = refl;
  image = refl;
}

abbrev pub locked_form_is_entered : Case
locked_form_is_entered = record usual {
  list = forms_list (opening 2 ++ hexes
      ("0f0f 0700 0000 0500 0000 0000 00 0200"  -- 39 REF
      ∷ "2902"  -- 48 END
      ∷ "0186 0200 0900"  -- 4a FORM
      ∷ "  060e 0300 0000 0100 0100 0000 00 00"  -- 50 CHECKBOX
      ∷ "  0b02"  -- 5e LOCKED
      ∷ "2902 2902"  -- 60 62 END
      ∷ []));
  image = codes "HVS1" ++ hex "0100 0100 0200 0000";
  said = asks "go 5" ∷ tells "OK"
      ∷ asks "page" ∷ tells "FORM 2 #9" ∷ tells "  1 !     1 #3                       [ ]"
      ∷ [];
  left = codes "HVS2" ++ hex "22222222222222222222222222222222 0100 0100 0200 0000";
}

locked_form_is_entered-holds : Holds locked_form_is_entered
unfolding computing
locked_form_is_entered-holds = record {
  stores = (1, hex "0000") ∷ [];
  opened = record { sound = refl; spelled = record { form = inr refl; laid = refl } };
  answers = refl;
  ended = refl;
  image = refl;
}

abbrev pub references_that_are_not_followed : Case
references_that_are_not_followed = record usual {
  list = forms_list (opening 2 ++ hexes
      ("060e 0300 0000 0100 0100 0000 00 00"  -- 39 CHECKBOX
      ∷ "0f0f 0400 0000 0200 0000 0000 00 0100"  -- 47 REF
      ∷ "0f0d 0500 0000 0300 0000 0000 00"  -- 56 REF
      ∷ "0f0f 0600 0000 0400 0000 0000 00 0000"  -- 63 REF
      ∷ "0f8f 0800 0000 0600 0000 0000 00 0100"  -- 72 REF
      ∷ "  0b02"  -- 81 LOCKED
      ∷ "2902"  -- 83 END
      ∷ "1982"  -- 85 GRAY_OUT_IF
      ∷ "  1206 0100 0100"  -- 87 EQ_ID_VAL
      ∷ "  0f0f 0900 0000 0700 0000 0000 00 0100"  -- 8d REF
      ∷ "2902"  -- 9c END
      ∷ "0a82"  -- 9e SUPPRESS_IF
      ∷ "  1206 0100 0100"  -- a0 EQ_ID_VAL
      ∷ "  0f0f 0a00 0000 0800 0000 0000 00 0100"  -- a6 REF
      ∷ "2902 2902 2902"  -- b5 b7 b9 END
      ∷ []));
  image = codes "HVS1" ++ hex "0100 0100 0200 0100";
  said = asks "go 9" ∷ tells "DENIED noquestion at 00000000"
      ∷ asks "go 0" ∷ tells "DENIED noquestion at 00000000"
      ∷ asks "go 1" ∷ tells "DENIED notref at 00000039"
      ∷ asks "go 3" ∷ tells "DENIED outside at 00000056"
      ∷ asks "go 4" ∷ tells "DENIED outside at 00000063"
      ∷ asks "go 6" ∷ tells "DENIED locked at 00000081"
      ∷ asks "go 7" ∷ tells "DENIED grayoutif at 00000085"
      ∷ asks "go 8" ∷ tells "DENIED suppressif at 0000009e"
      ∷ asks "back" ∷ tells "DENIED noback at 00000000"
      ∷ asks "go 2" ∷ tells "OK"
      ∷ asks "set 1 0" ∷ tells "OK"
      ∷ asks "go 7" ∷ tells "OK"
      ∷ asks "go 8" ∷ tells "OK"
      ∷ [];
  left = codes "HVS2" ++ hex "22222222222222222222222222222222 0100 0100 0200 0100";
}

references_that_are_not_followed-holds : Holds references_that_are_not_followed
unfolding computing
references_that_are_not_followed-holds = record {
  stores = (1, hex "0100") ∷ [];
  opened = record { sound = refl; spelled = record { form = inr refl; laid = refl } };
  answers = refl;
  ended = refl;
  image = refl;
}

-- Worked cases of what is seen, changed and submitted, as tests/rule_cases writes them.
use Rattle.std.proofs.Common.{refl, inl, inr}
use Rattle.std.specs.Prelude.{[], ◌∷◌, ◌++◌, codes}
use Rattle.browser_rules.proofs.CaseWords.{hex, hexes, forms_list, opening, asks, tells, Case, usual, Holds}
use Rattle.browser_rules.proofs.cases.Computing.{computing}

-- ---- hidden

abbrev pub hidden_question_is_not_set : Case
hidden_question_is_not_set = record usual {
  list = forms_list (opening 2 ++ hexes
      ("0a82"  -- 39 SUPPRESS_IF
      ∷ "  1206 0200 0100"  -- 3b EQ_ID_VAL
      ∷ "  060e 0300 0000 0100 0100 0000 00 00"  -- 41 CHECKBOX
      ∷ "2902"  -- 4f END
      ∷ "060e 0400 0000 0200 0100 0100 00 00"  -- 51 CHECKBOX
      ∷ "2902 2902"  -- 5f 61 END
      ∷ []));
  image = codes "HVS1" ++ hex "0100 0100 0200 0001";
  said = asks "page" ∷ tells "FORM 1 #2" ∷ tells "  1 *     2 #4                       [x]"
      ∷ asks "set 1 1" ∷ tells "DENIED suppressif at 00000039"
      ∷ asks "set 2 0" ∷ tells "OK"
      ∷ asks "page"
      ∷ tells "FORM 1 #2"
      ∷ tells "  1 *     1 #3                       [ ]"
      ∷ tells "  2 *     2 #4                       [ ]"
      ∷ [];
  left = codes "HVS2" ++ hex "22222222222222222222222222222222 0100 0100 0200 0001";
}

hidden_question_is_not_set-holds : Holds hidden_question_is_not_set
unfolding computing
hidden_question_is_not_set-holds = record {
  stores = (1, hex "0001") ∷ [];
  opened = record { sound = refl; spelled = record { form = inr refl; laid = refl } };
  answers = refl;
  ended = refl;
  image = refl;
}

abbrev pub question_shown_by_its_own_guard : Case
question_shown_by_its_own_guard = record usual {
  list = forms_list (opening 2 ++ hexes
      ("0a82"  -- 39 SUPPRESS_IF
      ∷ "  1206 0100 0100"  -- 3b EQ_ID_VAL
      ∷ "  060e 0300 0000 0100 0100 0000 00 00"  -- 41 CHECKBOX
      ∷ "2902 2902 2902"  -- 4f 51 53 END
      ∷ []));
  image = codes "HVS1" ++ hex "0100 0100 0200 0000";
  said = asks "page" ∷ tells "FORM 1 #2" ∷ tells "  1 *     1 #3                       [ ]"
      ∷ [];
  left = codes "HVS2" ++ hex "22222222222222222222222222222222 0100 0100 0200 0000";
}

question_shown_by_its_own_guard-holds : Holds question_shown_by_its_own_guard
unfolding computing
question_shown_by_its_own_guard-holds = record {
  stores = (1, hex "0000") ∷ [];
  opened = record { sound = refl; spelled = record { form = inr refl; laid = refl } };
  answers = refl;
  ended = refl;
  image = refl;
}

abbrev pub question_hidden_by_its_own_guard : Case
question_hidden_by_its_own_guard = record usual {
  list = forms_list (opening 2 ++ hexes
      ("0a82"  -- 39 SUPPRESS_IF
      ∷ "  1206 0100 0100"  -- 3b EQ_ID_VAL
      ∷ "  060e 0300 0000 0100 0100 0000 00 00"  -- 41 CHECKBOX
      ∷ "2902 2902 2902"  -- 4f 51 53 END
      ∷ []));
  image = codes "HVS1" ++ hex "0100 0100 0200 0100";
  said = asks "page" ∷ tells "FORM 1 #2"
      ∷ asks "set 1 0" ∷ tells "DENIED suppressif at 00000039"
      ∷ [];
  left = codes "HVS2" ++ hex "22222222222222222222222222222222 0100 0100 0200 0100";
}

question_hidden_by_its_own_guard-holds : Holds question_hidden_by_its_own_guard
unfolding computing
question_hidden_by_its_own_guard-holds = record {
  stores = (1, hex "0100") ∷ [];
  opened = record { sound = refl; spelled = record { form = inr refl; laid = refl } };
  answers = refl;
  ended = refl;
  image = refl;
}

abbrev pub outermost_guard_is_named : Case
outermost_guard_is_named = record usual {
  list = forms_list (opening 2 ++ hexes
      ("0a82"  -- 39 SUPPRESS_IF
      ∷ "  1206 0200 0100"  -- 3b EQ_ID_VAL
      ∷ "  0a82"  -- 41 SUPPRESS_IF
      ∷ "    1206 0100 0000"  -- 43 EQ_ID_VAL
      ∷ "    060e 0300 0000 0100 0100 0000 00 00"  -- 49 CHECKBOX
      ∷ "  2902 2902"  -- 57 59 END
      ∷ "060e 0400 0000 0200 0100 0100 00 00"  -- 5b CHECKBOX
      ∷ "2902 2902"  -- 69 6b END
      ∷ []));
  image = codes "HVS1" ++ hex "0100 0100 0200 0001";
  said = asks "set 1 1" ∷ tells "DENIED suppressif at 00000039"
      ∷ asks "set 2 0" ∷ tells "OK"
      ∷ asks "set 1 1" ∷ tells "DENIED suppressif at 00000041"
      ∷ [];
  left = codes "HVS2" ++ hex "22222222222222222222222222222222 0100 0100 0200 0001";
}

outermost_guard_is_named-holds : Holds outermost_guard_is_named
unfolding computing
outermost_guard_is_named-holds = record {
  stores = (1, hex "0001") ∷ [];
  opened = record { sound = refl; spelled = record { form = inr refl; laid = refl } };
  answers = refl;
  ended = refl;
  image = refl;
}

abbrev pub outermost_that_hides_is_named : Case
outermost_that_hides_is_named = record usual {
  list = forms_list (opening 2 ++ hexes
      ("0a82"  -- 39 SUPPRESS_IF
      ∷ "  1206 0200 0100"  -- 3b EQ_ID_VAL
      ∷ "  1e82"  -- 41 DISABLE_IF
      ∷ "    4602"  -- 43 TRUE
      ∷ "    060e 0300 0000 0100 0100 0000 00 00"  -- 45 CHECKBOX
      ∷ "  2902 2902"  -- 53 55 END
      ∷ "060e 0400 0000 0200 0100 0100 00 00"  -- 57 CHECKBOX
      ∷ "2902 2902"  -- 65 67 END
      ∷ []));
  image = codes "HVS1" ++ hex "0100 0100 0200 0000";
  said = asks "why 1" ∷ tells "DENIED disableif at 00000041"
      ∷ asks "set 2 1" ∷ tells "OK"
      ∷ asks "why 1" ∷ tells "DENIED suppressif at 00000039"
      ∷ [];
  left = codes "HVS2" ++ hex "22222222222222222222222222222222 0100 0100 0200 0000";
}

outermost_that_hides_is_named-holds : Holds outermost_that_hides_is_named
unfolding computing
outermost_that_hides_is_named-holds = record {
  stores = (1, hex "0000") ∷ [];
  opened = record { sound = refl; spelled = record { form = inr refl; laid = refl } };
  answers = refl;
  ended = refl;
  image = refl;
}

abbrev pub disabled_by_the_stores_at_opening : Case
disabled_by_the_stores_at_opening = record usual {
  list = forms_list (opening 2 ++ hexes
      ("1e82"  -- 39 DISABLE_IF
      ∷ "  1206 0200 0100"  -- 3b EQ_ID_VAL
      ∷ "  060e 0300 0000 0100 0100 0000 00 00"  -- 41 CHECKBOX
      ∷ "2902"  -- 4f END
      ∷ "060e 0400 0000 0200 0100 0100 00 00"  -- 51 CHECKBOX
      ∷ "2902 2902"  -- 5f 61 END
      ∷ []));
  image = codes "HVS1" ++ hex "0100 0100 0200 0000";
  said = asks "set 2 1" ∷ tells "OK"
      ∷ asks "why 1" ∷ tells "OK"
      ∷ asks "submit" ∷ tells "OK 1" ∷ tells "CHANGED 2"
      ∷ asks "page"
      ∷ tells "FORM 1 #2"
      ∷ tells "  1 *     1 #3                       [ ]"
      ∷ tells "  2 *     2 #4                       [x]"
      ∷ [];
  left = codes "HVS2" ++ hex "22222222222222222222222222222222 0100 0100 0200 0001";
}

disabled_by_the_stores_at_opening-holds : Holds disabled_by_the_stores_at_opening
unfolding computing
disabled_by_the_stores_at_opening-holds = record {
  stores = (1, hex "0000") ∷ [];
  opened = record { sound = refl; spelled = record { form = inr refl; laid = refl } };
  answers = refl;
  ended = refl;
  image = refl;
}

abbrev pub disabled_as_long_as_the_session_lasts : Case
disabled_as_long_as_the_session_lasts = record usual {
  list = forms_list (opening 2 ++ hexes
      ("1e82"  -- 39 DISABLE_IF
      ∷ "  1206 0200 0100"  -- 3b EQ_ID_VAL
      ∷ "  060e 0300 0000 0100 0100 0000 00 00"  -- 41 CHECKBOX
      ∷ "2902"  -- 4f END
      ∷ "060e 0400 0000 0200 0100 0100 00 00"  -- 51 CHECKBOX
      ∷ "2902 2902"  -- 5f 61 END
      ∷ []));
  image = codes "HVS2" ++ hex "22222222222222222222222222222222 0100 0100 0200 0001";
  said = asks "why 1" ∷ tells "DENIED disableif at 00000039"
      ∷ asks "set 2 0" ∷ tells "OK"
      ∷ asks "why 1" ∷ tells "DENIED disableif at 00000039"
      ∷ asks "page" ∷ tells "FORM 1 #2" ∷ tells "  1 *     2 #4                       [ ]"
      ∷ [];
  left = codes "HVS2" ++ hex "22222222222222222222222222222222 0100 0100 0200 0001";
}

disabled_as_long_as_the_session_lasts-holds : Holds disabled_as_long_as_the_session_lasts
unfolding computing
disabled_as_long_as_the_session_lasts-holds = record {
  stores = (1, hex "0001") ∷ [];
  opened = record { sound = refl; spelled = record { form = inl refl; laid = refl } };
  answers = refl;
  ended = refl;
  image = refl;
}

abbrev pub a_shared_field_answers_for_both : Case
a_shared_field_answers_for_both = record usual {
  list = forms_list (opening 2 ++ hexes
      ("0a82"  -- 39 SUPPRESS_IF
      ∷ "  1206 0200 0100"  -- 3b EQ_ID_VAL
      ∷ "  060e 0300 0000 0100 0100 0000 00 00"  -- 41 CHECKBOX
      ∷ "2902"  -- 4f END
      ∷ "060e 0400 0000 0200 0100 0100 00 00"  -- 51 CHECKBOX
      ∷ "060e 0500 0000 0300 0100 0100 00 00"  -- 5f CHECKBOX
      ∷ "2902 2902"  -- 6d 6f END
      ∷ []));
  image = codes "HVS1" ++ hex "0100 0100 0200 0000";
  said = asks "why 1" ∷ tells "OK"
      ∷ asks "set 3 1" ∷ tells "OK"
      ∷ asks "why 1" ∷ tells "DENIED suppressif at 00000039"
      ∷ asks "submit" ∷ tells "OK 2" ∷ tells "CHANGED 2" ∷ tells "CHANGED 3"
      ∷ [];
  left = codes "HVS2" ++ hex "22222222222222222222222222222222 0100 0100 0200 0001";
}

a_shared_field_answers_for_both-holds : Holds a_shared_field_answers_for_both
unfolding computing
a_shared_field_answers_for_both-holds = record {
  stores = (1, hex "0000") ∷ [];
  opened = record { sound = refl; spelled = record { form = inr refl; laid = refl } };
  answers = refl;
  ended = refl;
  image = refl;
}

abbrev pub why_names_what_the_last_change_brought : Case
why_names_what_the_last_change_brought = record usual {
  list = forms_list (opening 2 ++ hexes
      ("0a82"  -- 39 SUPPRESS_IF
      ∷ "  1206 0200 0100"  -- 3b EQ_ID_VAL
      ∷ "  060e 0300 0000 0100 0100 0000 00 00"  -- 41 CHECKBOX
      ∷ "2902"  -- 4f END
      ∷ "060e 0400 0000 0200 0100 0100 00 00"  -- 51 CHECKBOX
      ∷ "2902 2902"  -- 5f 61 END
      ∷ []));
  image = codes "HVS1" ++ hex "0100 0100 0200 0000";
  said = asks "why 1" ∷ tells "OK"
      ∷ asks "set 2 1" ∷ tells "OK"
      ∷ asks "why 1" ∷ tells "DENIED suppressif at 00000039"
      ∷ asks "why 9" ∷ tells "DENIED noquestion at 00000000"
      ∷ [];
  left = codes "HVS2" ++ hex "22222222222222222222222222222222 0100 0100 0200 0000";
}

why_names_what_the_last_change_brought-holds : Holds why_names_what_the_last_change_brought
unfolding computing
why_names_what_the_last_change_brought-holds = record {
  stores = (1, hex "0000") ∷ [];
  opened = record { sound = refl; spelled = record { form = inr refl; laid = refl } };
  answers = refl;
  ended = refl;
  image = refl;
}

-- ---- fixed

abbrev pub hidden_before_grayed_out : Case
hidden_before_grayed_out = record usual {
  list = forms_list (opening 3 ++ hexes
      ("1982"  -- 39 GRAY_OUT_IF
      ∷ "  1206 0200 0100"  -- 3b EQ_ID_VAL
      ∷ "  0a82"  -- 41 SUPPRESS_IF
      ∷ "    1206 0300 0100"  -- 43 EQ_ID_VAL
      ∷ "    060e 0300 0000 0100 0100 0000 00 00"  -- 49 CHECKBOX
      ∷ "  2902 2902"  -- 57 59 END
      ∷ "060e 0400 0000 0200 0100 0100 00 00"  -- 5b CHECKBOX
      ∷ "060e 0500 0000 0300 0100 0200 00 00"  -- 69 CHECKBOX
      ∷ "2902 2902"  -- 77 79 END
      ∷ []));
  image = codes "HVS1" ++ hex "0100 0100 0300 000101";
  said = asks "why 1" ∷ tells "DENIED suppressif at 00000041"
      ∷ asks "set 3 0" ∷ tells "OK"
      ∷ asks "why 1" ∷ tells "DENIED grayoutif at 00000039"
      ∷ asks "set 1 1" ∷ tells "DENIED grayoutif at 00000039"
      ∷ asks "page"
      ∷ tells "FORM 1 #2"
      ∷ tells "  1 !     1 #3                       [ ]"
      ∷ tells "  2 *     2 #4                       [x]"
      ∷ tells "  3 *     3 #5                       [ ]"
      ∷ [];
  left = codes "HVS2" ++ hex "22222222222222222222222222222222 0100 0100 0300 000101";
}

hidden_before_grayed_out-holds : Holds hidden_before_grayed_out
unfolding computing
hidden_before_grayed_out-holds = record {
  stores = (1, hex "000101") ∷ [];
  opened = record { sound = refl; spelled = record { form = inr refl; laid = refl } };
  answers = refl;
  ended = refl;
  image = refl;
}

abbrev pub outermost_gray_out_is_named : Case
outermost_gray_out_is_named = record usual {
  list = forms_list (opening 3 ++ hexes
      ("1982"  -- 39 GRAY_OUT_IF
      ∷ "  1206 0200 0100"  -- 3b EQ_ID_VAL
      ∷ "  1982"  -- 41 GRAY_OUT_IF
      ∷ "    1206 0300 0100"  -- 43 EQ_ID_VAL
      ∷ "    060e 0300 0000 0100 0100 0000 00 00"  -- 49 CHECKBOX
      ∷ "  2902 2902"  -- 57 59 END
      ∷ "060e 0400 0000 0200 0100 0100 00 00"  -- 5b CHECKBOX
      ∷ "060e 0500 0000 0300 0100 0200 00 00"  -- 69 CHECKBOX
      ∷ "2902 2902"  -- 77 79 END
      ∷ []));
  image = codes "HVS1" ++ hex "0100 0100 0300 000101";
  said = asks "why 1" ∷ tells "DENIED grayoutif at 00000039"
      ∷ asks "set 2 0" ∷ tells "OK"
      ∷ asks "why 1" ∷ tells "DENIED grayoutif at 00000041"
      ∷ asks "set 3 0" ∷ tells "OK"
      ∷ asks "why 1" ∷ tells "OK"
      ∷ [];
  left = codes "HVS2" ++ hex "22222222222222222222222222222222 0100 0100 0300 000101";
}

outermost_gray_out_is_named-holds : Holds outermost_gray_out_is_named
unfolding computing
outermost_gray_out_is_named-holds = record {
  stores = (1, hex "000101") ∷ [];
  opened = record { sound = refl; spelled = record { form = inr refl; laid = refl } };
  answers = refl;
  ended = refl;
  image = refl;
}

abbrev pub locked_in_the_question : Case
locked_in_the_question = record usual {
  list = forms_list (opening 2 ++ hexes
      ("068e 0300 0000 0100 0100 0000 00 00"  -- 39 CHECKBOX
      ∷ "  0b02"  -- 47 LOCKED
      ∷ "2902 2902 2902"  -- 49 4b 4d END
      ∷ []));
  image = codes "HVS1" ++ hex "0100 0100 0200 0000";
  said = asks "set 1 1" ∷ tells "DENIED locked at 00000047"
      ∷ asks "why 1" ∷ tells "DENIED locked at 00000047"
      ∷ asks "page" ∷ tells "FORM 1 #2" ∷ tells "  1 !     1 #3                       [ ]"
      ∷ [];
  left = codes "HVS2" ++ hex "22222222222222222222222222222222 0100 0100 0200 0000";
}

locked_in_the_question-holds : Holds locked_in_the_question
unfolding computing
locked_in_the_question-holds = record {
  stores = (1, hex "0000") ∷ [];
  opened = record { sound = refl; spelled = record { form = inr refl; laid = refl } };
  answers = refl;
  ended = refl;
  image = refl;
}

abbrev pub locked_behind_what_it_locks : Case
locked_behind_what_it_locks = record usual {
  list = forms_list (opening 2 ++ hexes
      ("060e 0300 0000 0100 0100 0000 00 00"  -- 39 CHECKBOX
      ∷ "0b02"  -- 47 LOCKED
      ∷ "2902 2902"  -- 49 4b END
      ∷ []));
  image = codes "HVS1" ++ hex "0100 0100 0200 0000";
  said = asks "set 1 1" ∷ tells "DENIED locked at 00000047"
      ∷ [];
  left = codes "HVS2" ++ hex "22222222222222222222222222222222 0100 0100 0200 0000";
}

locked_behind_what_it_locks-holds : Holds locked_behind_what_it_locks
unfolding computing
locked_behind_what_it_locks-holds = record {
  stores = (1, hex "0000") ∷ [];
  opened = record { sound = refl; spelled = record { form = inr refl; laid = refl } };
  answers = refl;
  ended = refl;
  image = refl;
}

abbrev pub locked_in_the_outermost_scope : Case
locked_in_the_outermost_scope = record usual {
  list = forms_list (opening 2 ++ hexes
      ("068e 0300 0000 0100 0100 0000 00 00"  -- 39 CHECKBOX
      ∷ "  0b02"  -- 47 LOCKED
      ∷ "2902"  -- 49 END
      ∷ "0b02"  -- 4b LOCKED
      ∷ "0b02"  -- 4d LOCKED
      ∷ "2902 2902"  -- 4f 51 END
      ∷ []));
  image = codes "HVS1" ++ hex "0100 0100 0200 0000";
  said = asks "set 1 1" ∷ tells "DENIED locked at 0000004b"
      ∷ [];
  left = codes "HVS2" ++ hex "22222222222222222222222222222222 0100 0100 0200 0000";
}

locked_in_the_outermost_scope-holds : Holds locked_in_the_outermost_scope
unfolding computing
locked_in_the_outermost_scope-holds = record {
  stores = (1, hex "0000") ∷ [];
  opened = record { sound = refl; spelled = record { form = inr refl; laid = refl } };
  answers = refl;
  ended = refl;
  image = refl;
}

abbrev pub locked_in_a_guard_that_does_not_hold : Case
locked_in_a_guard_that_does_not_hold = record usual {
  list = forms_list (opening 2 ++ hexes
      ("1982"  -- 39 GRAY_OUT_IF
      ∷ "  4702"  -- 3b FALSE
      ∷ "  060e 0300 0000 0100 0100 0000 00 00"  -- 3d CHECKBOX
      ∷ "  0b02"  -- 4b LOCKED
      ∷ "2902"  -- 4d END
      ∷ "060e 0400 0000 0200 0100 0100 00 00"  -- 4f CHECKBOX
      ∷ "2902 2902"  -- 5d 5f END
      ∷ []));
  image = codes "HVS1" ++ hex "0100 0100 0200 0000";
  said = asks "set 1 1" ∷ tells "DENIED locked at 0000004b"
      ∷ asks "set 2 1" ∷ tells "OK"
      ∷ [];
  left = codes "HVS2" ++ hex "22222222222222222222222222222222 0100 0100 0200 0000";
}

locked_in_a_guard_that_does_not_hold-holds : Holds locked_in_a_guard_that_does_not_hold
unfolding computing
locked_in_a_guard_that_does_not_hold-holds = record {
  stores = (1, hex "0000") ∷ [];
  opened = record { sound = refl; spelled = record { form = inr refl; laid = refl } };
  answers = refl;
  ended = refl;
  image = refl;
}

abbrev pub read_only_is_told_behind_locked : Case
read_only_is_told_behind_locked = record usual {
  list = forms_list (opening 2 ++ hexes
      ("068e 0300 0000 0100 0100 0000 01 00"  -- 39 CHECKBOX
      ∷ "  0b02"  -- 47 LOCKED
      ∷ "2902"  -- 49 END
      ∷ "060e 0400 0000 0200 0100 0100 01 00"  -- 4b CHECKBOX
      ∷ "2902 2902"  -- 59 5b END
      ∷ []));
  image = codes "HVS1" ++ hex "0100 0100 0200 0000";
  said = asks "why 1" ∷ tells "DENIED locked at 00000047"
      ∷ asks "why 2" ∷ tells "DENIED readonly at 0000004b"
      ∷ [];
  left = codes "HVS2" ++ hex "22222222222222222222222222222222 0100 0100 0200 0000";
}

read_only_is_told_behind_locked-holds : Holds read_only_is_told_behind_locked
unfolding computing
read_only_is_told_behind_locked-holds = record {
  stores = (1, hex "0000") ∷ [];
  opened = record { sound = refl; spelled = record { form = inr refl; laid = refl } };
  answers = refl;
  ended = refl;
  image = refl;
}

abbrev pub read_only_question_is_fixed : Case
read_only_question_is_fixed = record usual {
  list = forms_list (opening 2 ++ hexes
      ("060e 0300 0000 0100 0100 0000 01 00"  -- 39 CHECKBOX
      ∷ "2902 2902"  -- 47 49 END
      ∷ []));
  image = codes "HVS1" ++ hex "0100 0100 0200 0000";
  said = asks "page" ∷ tells "FORM 1 #2" ∷ tells "  1 !     1 #3                       [ ]"
      ∷ asks "set 1 1" ∷ tells "DENIED readonly at 00000039"
      ∷ asks "why 1" ∷ tells "DENIED readonly at 00000039"
      ∷ [];
  left = codes "HVS2" ++ hex "22222222222222222222222222222222 0100 0100 0200 0000";
}

read_only_question_is_fixed-holds : Holds read_only_question_is_fixed
unfolding computing
read_only_question_is_fixed-holds = record {
  stores = (1, hex "0000") ∷ [];
  opened = record { sound = refl; spelled = record { form = inr refl; laid = refl } };
  answers = refl;
  ended = refl;
  image = refl;
}

abbrev pub grayed_out_before_locked : Case
grayed_out_before_locked = record usual {
  list = forms_list (opening 2 ++ hexes
      ("1982"  -- 39 GRAY_OUT_IF
      ∷ "  4602"  -- 3b TRUE
      ∷ "  068e 0300 0000 0100 0100 0000 00 00"  -- 3d CHECKBOX
      ∷ "    0b02"  -- 4b LOCKED
      ∷ "  2902 2902 2902 2902"  -- 4d 4f 51 53 END
      ∷ []));
  image = codes "HVS1" ++ hex "0100 0100 0200 0000";
  said = asks "why 1" ∷ tells "DENIED grayoutif at 00000039"
      ∷ [];
  left = codes "HVS2" ++ hex "22222222222222222222222222222222 0100 0100 0200 0000";
}

grayed_out_before_locked-holds : Holds grayed_out_before_locked
unfolding computing
grayed_out_before_locked-holds = record {
  stores = (1, hex "0000") ∷ [];
  opened = record { sound = refl; spelled = record { form = inr refl; laid = refl } };
  answers = refl;
  ended = refl;
  image = refl;
}

abbrev pub grayed_out_before_read_only : Case
grayed_out_before_read_only = record usual {
  list = forms_list (opening 2 ++ hexes
      ("1982"  -- 39 GRAY_OUT_IF
      ∷ "  4602"  -- 3b TRUE
      ∷ "  060e 0300 0000 0100 0100 0000 01 00"  -- 3d CHECKBOX
      ∷ "2902 2902 2902"  -- 4b 4d 4f END
      ∷ []));
  image = codes "HVS1" ++ hex "0100 0100 0200 0000";
  said = asks "why 1" ∷ tells "DENIED grayoutif at 00000039"
      ∷ [];
  left = codes "HVS2" ++ hex "22222222222222222222222222222222 0100 0100 0200 0000";
}

grayed_out_before_read_only-holds : Holds grayed_out_before_read_only
unfolding computing
grayed_out_before_read_only-holds = record {
  stores = (1, hex "0000") ∷ [];
  opened = record { sound = refl; spelled = record { form = inr refl; laid = refl } };
  answers = refl;
  ended = refl;
  image = refl;
}

abbrev pub locked_in_the_form_set : Case
locked_in_the_form_set = record usual {
  list = forms_list (opening 2 ++ hexes
      ("060e 0300 0000 0100 0100 0000 00 00"  -- 39 CHECKBOX
      ∷ "2902"  -- 47 END
      ∷ "0b02"  -- 49 LOCKED
      ∷ "2902"  -- 4b END
      ∷ []));
  image = codes "HVS1" ++ hex "0100 0100 0200 0000";
  said = asks "set 1 1" ∷ tells "DENIED locked at 00000049"
      ∷ [];
  left = codes "HVS2" ++ hex "22222222222222222222222222222222 0100 0100 0200 0000";
}

locked_in_the_form_set-holds : Holds locked_in_the_form_set
unfolding computing
locked_in_the_form_set-holds = record {
  stores = (1, hex "0000") ∷ [];
  opened = record { sound = refl; spelled = record { form = inr refl; laid = refl } };
  answers = refl;
  ended = refl;
  image = refl;
}

abbrev pub read_only_number : Case
read_only_number = record usual {
  list = forms_list (opening 2 ++ hexes
      ("0711 0300 0000 0100 0100 0000 01 10 00 09 04"  -- 39 NUMERIC
      ∷ "2902 2902"  -- 4a 4c END
      ∷ []));
  image = codes "HVS1" ++ hex "0100 0100 0200 0300";
  said = asks "page" ∷ tells "FORM 1 #2" ∷ tells "  1 !     1 #3                       [3]"
      ∷ asks "set 1 10" ∷ tells "DENIED readonly at 00000039"
      ∷ asks "text 1 x" ∷ tells "DENIED readonly at 00000039"
      ∷ asks "set 1 4" ∷ tells "DENIED readonly at 00000039"
      ∷ [];
  left = codes "HVS2" ++ hex "22222222222222222222222222222222 0100 0100 0200 0300";
}

read_only_number-holds : Holds read_only_number
unfolding computing
read_only_number-holds = record {
  stores = (1, hex "0300") ∷ [];
  opened = record { sound = refl; spelled = record { form = inr refl; laid = refl } };
  answers = refl;
  ended = refl;
  image = refl;
}

abbrev pub read_only_date : Case
read_only_date = record usual {
  list = forms_list (opening 2 ++ hexes
      ("1a0e 0300 0000 0100 0000 0000 01 00"  -- 39 DATE
      ∷ "2902 2902"  -- 47 49 END
      ∷ []));
  image = codes "HVS1" ++ hex "0100 0100 0200 0000";
  said = asks "page" ∷ tells "FORM 1 #2" ∷ tells "  1 !     1 #3                       []"
      ∷ asks "set 1 1" ∷ tells "DENIED readonly at 00000039"
      ∷ [];
  left = codes "HVS2" ++ hex "22222222222222222222222222222222 0100 0100 0200 0000";
}

read_only_date-holds : Holds read_only_date
unfolding computing
read_only_date-holds = record {
  stores = (1, hex "0000") ∷ [];
  opened = record { sound = refl; spelled = record { form = inr refl; laid = refl } };
  answers = refl;
  ended = refl;
  image = refl;
}

abbrev pub date_in_a_store : Case
date_in_a_store = record usual {
  list = forms_list (opening 2 ++ hexes
      ("1a0e 0300 0000 0100 0100 0000 00 00"  -- 39 DATE
      ∷ "2902 2902"  -- 47 49 END
      ∷ []));
  image = codes "HVS1" ++ hex "0100 0100 0200 0101";
  said = asks "page" ∷ tells "FORM 1 #2" ∷ tells "  1 !     1 #3                       []"
      ∷ asks "set 1 1" ∷ tells "DENIED outside at 00000039"
      ∷ asks "why 1" ∷ tells "DENIED outside at 00000039"
      ∷ [];
  left = codes "HVS2" ++ hex "22222222222222222222222222222222 0100 0100 0200 0101";
}

date_in_a_store-holds : Holds date_in_a_store
unfolding computing
date_in_a_store-holds = record {
  stores = (1, hex "0101") ∷ [];
  opened = record { sound = refl; spelled = record { form = inr refl; laid = refl } };
  answers = refl;
  ended = refl;
  image = refl;
}

abbrev pub question_without_a_store_is_outside : Case
question_without_a_store_is_outside = record usual {
  list = forms_list (opening 2 ++ hexes
      ("060e 0300 0000 0100 0000 0000 00 00"  -- 39 CHECKBOX
      ∷ "2902 2902"  -- 47 49 END
      ∷ []));
  image = codes "HVS1" ++ hex "0100 0100 0200 0000";
  said = asks "page" ∷ tells "FORM 1 #2" ∷ tells "  1 !     1 #3                       []"
      ∷ asks "set 1 1" ∷ tells "DENIED outside at 00000039"
      ∷ [];
  left = codes "HVS2" ++ hex "22222222222222222222222222222222 0100 0100 0200 0000";
}

question_without_a_store_is_outside-holds : Holds question_without_a_store_is_outside
unfolding computing
question_without_a_store_is_outside-holds = record {
  stores = (1, hex "0000") ∷ [];
  opened = record { sound = refl; spelled = record { form = inr refl; laid = refl } };
  answers = refl;
  ended = refl;
  image = refl;
}

-- ---- options

abbrev pub a_hidden_option_is_not_chosen : Case
a_hidden_option_is_not_chosen = record usual {
  list = forms_list (opening 2 ++ hexes
      ("0591 0300 0000 0100 0100 0000 00 10 00 00 04"  -- 39 ONE_OF
      ∷ "  0907 0500 00 00 01"  -- 4a ONE_OF_OPTION
      ∷ "  0a82"  -- 51 SUPPRESS_IF
      ∷ "    4602"  -- 53 TRUE
      ∷ "    0907 0600 00 00 02"  -- 55 ONE_OF_OPTION
      ∷ "  2902 2902 2902 2902"  -- 5c 5e 60 62 END
      ∷ []));
  image = codes "HVS1" ++ hex "0100 0100 0200 0200";
  said = asks "page" ∷ tells "FORM 1 #2" ∷ tells "  1 *     1 #3                       [<?>]"
      ∷ asks "set 1 2" ∷ tells "DENIED suppressif at 00000051"
      ∷ asks "set 1 3" ∷ tells "DENIED nooption at 00000039"
      ∷ asks "set 1 1" ∷ tells "OK"
      ∷ asks "page" ∷ tells "FORM 1 #2" ∷ tells "  1 *     1 #3                       [<#5>]"
      ∷ [];
  left = codes "HVS2" ++ hex "22222222222222222222222222222222 0100 0100 0200 0200";
}

a_hidden_option_is_not_chosen-holds : Holds a_hidden_option_is_not_chosen
unfolding computing
a_hidden_option_is_not_chosen-holds = record {
  stores = (1, hex "0200") ∷ [];
  opened = record { sound = refl; spelled = record { form = inr refl; laid = refl } };
  answers = refl;
  ended = refl;
  image = refl;
}

abbrev pub a_locked_option_is_not_chosen : Case
a_locked_option_is_not_chosen = record usual {
  list = forms_list (opening 2 ++ hexes
      ("0591 0300 0000 0100 0100 0000 00 10 00 00 04"  -- 39 ONE_OF
      ∷ "  1982"  -- 4a GRAY_OUT_IF
      ∷ "    4702"  -- 4c FALSE
      ∷ "    0907 0500 00 00 01"  -- 4e ONE_OF_OPTION
      ∷ "    0b02"  -- 55 LOCKED
      ∷ "  2902"  -- 57 END
      ∷ "  0907 0600 00 00 02"  -- 59 ONE_OF_OPTION
      ∷ "2902 2902 2902"  -- 60 62 64 END
      ∷ []));
  image = codes "HVS1" ++ hex "0100 0100 0200 0200";
  said = asks "set 1 1" ∷ tells "DENIED locked at 00000055"
      ∷ asks "set 1 2" ∷ tells "OK"
      ∷ [];
  left = codes "HVS2" ++ hex "22222222222222222222222222222222 0100 0100 0200 0200";
}

a_locked_option_is_not_chosen-holds : Holds a_locked_option_is_not_chosen
unfolding computing
a_locked_option_is_not_chosen-holds = record {
  stores = (1, hex "0200") ∷ [];
  opened = record { sound = refl; spelled = record { form = inr refl; laid = refl } };
  answers = refl;
  ended = refl;
  image = refl;
}

abbrev pub hidden_option_is_not_chosen_but_a_default_is : Case
hidden_option_is_not_chosen_but_a_default_is = record usual {
  list = forms_list (opening 2 ++ hexes
      ("0591 0300 0000 0100 0100 0000 00 10 00 00 00"  -- 39 ONE_OF
      ∷ "  0907 0500 10 00 01"  -- 4a ONE_OF_OPTION
      ∷ "  0a82"  -- 51 SUPPRESS_IF
      ∷ "    4602"  -- 53 TRUE
      ∷ "    0907 0600 00 00 02"  -- 55 ONE_OF_OPTION
      ∷ "  2902 2902 2902 2902"  -- 5c 5e 60 62 END
      ∷ []));
  image = codes "HVS1" ++ hex "0100 0100 0200 0200";
  said = asks "page" ∷ tells "FORM 1 #2" ∷ tells "  1 *     1 #3                       [<?>]"
      ∷ asks "set 1 2" ∷ tells "DENIED suppressif at 00000051"
      ∷ asks "set 1 3" ∷ tells "DENIED nooption at 00000039"
      ∷ asks "defaults 0" ∷ tells "OK 1"
      ∷ asks "page" ∷ tells "FORM 1 #2" ∷ tells "  1 *     1 #3                       [<#5>]"
      ∷ [];
  left = codes "HVS2" ++ hex "22222222222222222222222222222222 0100 0100 0200 0200";
}

hidden_option_is_not_chosen_but_a_default_is-holds : Holds hidden_option_is_not_chosen_but_a_default_is
unfolding computing
hidden_option_is_not_chosen_but_a_default_is-holds = record {
  stores = (1, hex "0200") ∷ [];
  opened = record { sound = refl; spelled = record { form = inr refl; laid = refl } };
  answers = refl;
  ended = refl;
  image = refl;
}

abbrev pub one_open_option_suffices : Case
one_open_option_suffices = record usual {
  list = forms_list (opening 2 ++ hexes
      ("0591 0300 0000 0100 0100 0000 00 10 00 00 04"  -- 39 ONE_OF
      ∷ "  1982"  -- 4a GRAY_OUT_IF
      ∷ "    4602"  -- 4c TRUE
      ∷ "    0907 0500 00 00 01"  -- 4e ONE_OF_OPTION
      ∷ "  2902"  -- 55 END
      ∷ "  0907 0600 00 00 01"  -- 57 ONE_OF_OPTION
      ∷ "2902 2902 2902"  -- 5e 60 62 END
      ∷ []));
  image = codes "HVS1" ++ hex "0100 0100 0200 0000";
  said = asks "set 1 1" ∷ tells "OK"
      ∷ asks "page" ∷ tells "FORM 1 #2" ∷ tells "  1 *     1 #3                       [<#5>]"
      ∷ [];
  left = codes "HVS2" ++ hex "22222222222222222222222222222222 0100 0100 0200 0000";
}

one_open_option_suffices-holds : Holds one_open_option_suffices
unfolding computing
one_open_option_suffices-holds = record {
  stores = (1, hex "0000") ∷ [];
  opened = record { sound = refl; spelled = record { form = inr refl; laid = refl } };
  answers = refl;
  ended = refl;
  image = refl;
}

abbrev pub first_of_the_closed_options_is_named : Case
first_of_the_closed_options_is_named = record usual {
  list = forms_list (opening 2 ++ hexes
      ("0591 0300 0000 0100 0100 0000 00 10 00 00 04"  -- 39 ONE_OF
      ∷ "  1982"  -- 4a GRAY_OUT_IF
      ∷ "    4602"  -- 4c TRUE
      ∷ "    0907 0500 00 00 01"  -- 4e ONE_OF_OPTION
      ∷ "  2902"  -- 55 END
      ∷ "  0a82"  -- 57 SUPPRESS_IF
      ∷ "    4602"  -- 59 TRUE
      ∷ "    0907 0600 00 00 01"  -- 5b ONE_OF_OPTION
      ∷ "  2902 2902 2902 2902"  -- 62 64 66 68 END
      ∷ []));
  image = codes "HVS1" ++ hex "0100 0100 0200 0000";
  said = asks "set 1 1" ∷ tells "DENIED grayoutif at 0000004a"
      ∷ [];
  left = codes "HVS2" ++ hex "22222222222222222222222222222222 0100 0100 0200 0000";
}

first_of_the_closed_options_is_named-holds : Holds first_of_the_closed_options_is_named
unfolding computing
first_of_the_closed_options_is_named-holds = record {
  stores = (1, hex "0000") ∷ [];
  opened = record { sound = refl; spelled = record { form = inr refl; laid = refl } };
  answers = refl;
  ended = refl;
  image = refl;
}

abbrev pub each_element_needs_an_open_option : Case
each_element_needs_an_open_option = record usual {
  list = forms_list (opening 2 ++ hexes
      ("238f 0300 0000 0100 0100 0000 00 02 00"  -- 39 ORDERED_LIST
      ∷ "  0907 0500 00 00 01"  -- 48 ONE_OF_OPTION
      ∷ "  1e82"  -- 4f DISABLE_IF
      ∷ "    4602"  -- 51 TRUE
      ∷ "    0907 0600 00 00 02"  -- 53 ONE_OF_OPTION
      ∷ "  2902 2902 2902 2902"  -- 5a 5c 5e 60 END
      ∷ []));
  image = codes "HVS1" ++ hex "0100 0100 0200 0201";
  said = asks "page" ∷ tells "FORM 1 #2" ∷ tells "  1 *     1 #3                       [?, #5]"
      ∷ asks "order 1 1,2" ∷ tells "DENIED disableif at 0000004f"
      ∷ asks "order 1 3,2" ∷ tells "DENIED nooption at 00000039"
      ∷ asks "order 1 1" ∷ tells "OK"
      ∷ asks "page" ∷ tells "FORM 1 #2" ∷ tells "  1 *     1 #3                       [#5]"
      ∷ [];
  left = codes "HVS2" ++ hex "22222222222222222222222222222222 0100 0100 0200 0201";
}

each_element_needs_an_open_option-holds : Holds each_element_needs_an_open_option
unfolding computing
each_element_needs_an_open_option-holds = record {
  stores = (1, hex "0201") ∷ [];
  opened = record { sound = refl; spelled = record { form = inr refl; laid = refl } };
  answers = refl;
  ended = refl;
  image = refl;
}

-- ---- conditions

abbrev pub inconsistent_with_the_new_field : Case
inconsistent_with_the_new_field = record usual {
  list = forms_list (opening 2 ++ hexes
      ("060e 0300 0000 0100 0100 0000 00 00"  -- 39 CHECKBOX
      ∷ "068e 0400 0000 0200 0100 0100 00 00"  -- 47 CHECKBOX
      ∷ "  1184 0700"  -- 55 INCONSISTENT_IF
      ∷ "    1206 0200 0100"  -- 59 EQ_ID_VAL
      ∷ "  2902 2902 2902 2902"  -- 5f 61 63 65 END
      ∷ []));
  image = codes "HVS1" ++ hex "0100 0100 0200 0000";
  said = asks "set 2 1" ∷ tells "DENIED inconsistentif at 00000055 #7"
      ∷ asks "set 2 0" ∷ tells "OK"
      ∷ asks "set 1 1" ∷ tells "OK"
      ∷ asks "submit" ∷ tells "OK 1" ∷ tells "CHANGED 1"
      ∷ [];
  left = codes "HVS2" ++ hex "22222222222222222222222222222222 0100 0100 0200 0100";
}

inconsistent_with_the_new_field-holds : Holds inconsistent_with_the_new_field
unfolding computing
inconsistent_with_the_new_field-holds = record {
  stores = (1, hex "0000") ∷ [];
  opened = record { sound = refl; spelled = record { form = inr refl; laid = refl } };
  answers = refl;
  ended = refl;
  image = refl;
}

abbrev pub not_inconsistent_with_the_old_field : Case
not_inconsistent_with_the_old_field = record usual {
  list = forms_list (opening 2 ++ hexes
      ("068e 0300 0000 0100 0100 0000 00 00"  -- 39 CHECKBOX
      ∷ "  1184 0700"  -- 47 INCONSISTENT_IF
      ∷ "    1206 0100 0100"  -- 4b EQ_ID_VAL
      ∷ "  2902 2902 2902 2902"  -- 51 53 55 57 END
      ∷ []));
  image = codes "HVS1" ++ hex "0100 0100 0200 0100";
  said = asks "set 1 1" ∷ tells "DENIED inconsistentif at 00000047 #7"
      ∷ asks "set 1 0" ∷ tells "OK"
      ∷ [];
  left = codes "HVS2" ++ hex "22222222222222222222222222222222 0100 0100 0200 0100";
}

not_inconsistent_with_the_old_field-holds : Holds not_inconsistent_with_the_old_field
unfolding computing
not_inconsistent_with_the_old_field-holds = record {
  stores = (1, hex "0100") ∷ [];
  opened = record { sound = refl; spelled = record { form = inr refl; laid = refl } };
  answers = refl;
  ended = refl;
  image = refl;
}

abbrev pub first_inconsistency_is_named : Case
first_inconsistency_is_named = record usual {
  list = forms_list (opening 2 ++ hexes
      ("068e 0300 0000 0100 0100 0000 00 00"  -- 39 CHECKBOX
      ∷ "  1184 0700"  -- 47 INCONSISTENT_IF
      ∷ "    4702"  -- 4b FALSE
      ∷ "  2902"  -- 4d END
      ∷ "  1184 0000"  -- 4f INCONSISTENT_IF
      ∷ "    4602"  -- 53 TRUE
      ∷ "  2902"  -- 55 END
      ∷ "  1184 0800"  -- 57 INCONSISTENT_IF
      ∷ "    4602"  -- 5b TRUE
      ∷ "  2902 2902 2902 2902"  -- 5d 5f 61 63 END
      ∷ []));
  image = codes "HVS1" ++ hex "0100 0100 0200 0000";
  said = asks "set 1 1" ∷ tells "DENIED inconsistentif at 0000004f "
      ∷ [];
  left = codes "HVS2" ++ hex "22222222222222222222222222222222 0100 0100 0200 0000";
}

first_inconsistency_is_named-holds : Holds first_inconsistency_is_named
unfolding computing
first_inconsistency_is_named-holds = record {
  stores = (1, hex "0000") ∷ [];
  opened = record { sound = refl; spelled = record { form = inr refl; laid = refl } };
  answers = refl;
  ended = refl;
  image = refl;
}

abbrev pub other_questions_are_not_asked : Case
other_questions_are_not_asked = record usual {
  list = forms_list (opening 2 ++ hexes
      ("060e 0300 0000 0100 0100 0000 00 00"  -- 39 CHECKBOX
      ∷ "068e 0400 0000 0200 0100 0100 00 00"  -- 47 CHECKBOX
      ∷ "  1184 0700"  -- 55 INCONSISTENT_IF
      ∷ "    4602"  -- 59 TRUE
      ∷ "  2902 2902 2902 2902"  -- 5b 5d 5f 61 END
      ∷ []));
  image = codes "HVS1" ++ hex "0100 0100 0200 0000";
  said = asks "set 1 1" ∷ tells "OK"
      ∷ [];
  left = codes "HVS2" ++ hex "22222222222222222222222222222222 0100 0100 0200 0000";
}

other_questions_are_not_asked-holds : Holds other_questions_are_not_asked
unfolding computing
other_questions_are_not_asked-holds = record {
  stores = (1, hex "0000") ∷ [];
  opened = record { sound = refl; spelled = record { form = inr refl; laid = refl } };
  answers = refl;
  ended = refl;
  image = refl;
}

abbrev pub warned_after_the_change : Case
warned_after_the_change = record usual {
  list = forms_list (opening 2 ++ hexes
      ("068e 0300 0000 0100 0100 0000 00 00"  -- 39 CHECKBOX
      ∷ "  6385 0900 00"  -- 47 WARNING_IF
      ∷ "    1206 0100 0100"  -- 4c EQ_ID_VAL
      ∷ "  2902 2902 2902 2902"  -- 52 54 56 58 END
      ∷ []));
  image = codes "HVS1" ++ hex "0100 0100 0200 0000";
  said = asks "set 1 1" ∷ tells "OK" ∷ tells "WARNING at 00000047 #9"
      ∷ asks "why 1" ∷ tells "OK"
      ∷ asks "set 1 0" ∷ tells "OK"
      ∷ asks "set 1 2" ∷ tells "DENIED range at 00000039"
      ∷ [];
  left = codes "HVS2" ++ hex "22222222222222222222222222222222 0100 0100 0200 0000";
}

warned_after_the_change-holds : Holds warned_after_the_change
unfolding computing
warned_after_the_change-holds = record {
  stores = (1, hex "0000") ∷ [];
  opened = record { sound = refl; spelled = record { form = inr refl; laid = refl } };
  answers = refl;
  ended = refl;
  image = refl;
}

abbrev pub warned_of_each_by_place : Case
warned_of_each_by_place = record usual {
  list = forms_list (opening 2 ++ hexes
      ("0791 0300 0000 0100 0100 0000 00 10 00 09 04"  -- 39 NUMERIC
      ∷ "  6385 0000 00"  -- 4a WARNING_IF
      ∷ "    4602"  -- 4f TRUE
      ∷ "  2902"  -- 51 END
      ∷ "  6385 0900 00"  -- 53 WARNING_IF
      ∷ "    1206 0100 0500"  -- 58 EQ_ID_VAL
      ∷ "  2902"  -- 5e END
      ∷ "  6385 0800 00"  -- 60 WARNING_IF
      ∷ "    4602"  -- 65 TRUE
      ∷ "  2902 2902 2902 2902"  -- 67 69 6b 6d END
      ∷ []));
  image = codes "HVS1" ++ hex "0100 0100 0200 0000";
  said = asks "set 1 4" ∷ tells "OK" ∷ tells "WARNING at 0000004a " ∷ tells "WARNING at 00000060 #8"
      ∷ asks "set 1 5"
      ∷ tells "OK"
      ∷ tells "WARNING at 0000004a "
      ∷ tells "WARNING at 00000053 #9"
      ∷ tells "WARNING at 00000060 #8"
      ∷ [];
  left = codes "HVS2" ++ hex "22222222222222222222222222222222 0100 0100 0200 0000";
}

warned_of_each_by_place-holds : Holds warned_of_each_by_place
unfolding computing
warned_of_each_by_place-holds = record {
  stores = (1, hex "0000") ∷ [];
  opened = record { sound = refl; spelled = record { form = inr refl; laid = refl } };
  answers = refl;
  ended = refl;
  image = refl;
}

-- ---- submission

abbrev pub submission_denied_by_a_hidden_question : Case
submission_denied_by_a_hidden_question = record usual {
  list = forms_list (opening 2 ++ hexes
      ("0a82"  -- 39 SUPPRESS_IF
      ∷ "  4602"  -- 3b TRUE
      ∷ "  068e 0300 0000 0100 0100 0000 00 00"  -- 3d CHECKBOX
      ∷ "    1084 0800"  -- 4b NO_SUBMIT_IF
      ∷ "      1206 0100 0000"  -- 4f EQ_ID_VAL
      ∷ "    2902 2902 2902 2902 2902"  -- 55 57 59 5b 5d END
      ∷ []));
  image = codes "HVS1" ++ hex "0100 0100 0200 0000";
  said = asks "submit" ∷ tells "DENIED nosubmitif at 0000004b #8"
      ∷ [];
  left = codes "HVS2" ++ hex "22222222222222222222222222222222 0100 0100 0200 0000";
}

submission_denied_by_a_hidden_question-holds : Holds submission_denied_by_a_hidden_question
unfolding computing
submission_denied_by_a_hidden_question-holds = record {
  stores = (1, hex "0000") ∷ [];
  opened = record { sound = refl; spelled = record { form = inr refl; laid = refl } };
  answers = refl;
  ended = refl;
  image = refl;
}

abbrev pub submission_not_denied_by_a_removed_question : Case
submission_not_denied_by_a_removed_question = record usual {
  list = forms_list (opening 2 ++ hexes
      ("1e82"  -- 39 DISABLE_IF
      ∷ "  4602"  -- 3b TRUE
      ∷ "  068e 0300 0000 0100 0100 0000 00 00"  -- 3d CHECKBOX
      ∷ "    1084 0800"  -- 4b NO_SUBMIT_IF
      ∷ "      1206 0100 0000"  -- 4f EQ_ID_VAL
      ∷ "    2902 2902 2902 2902 2902"  -- 55 57 59 5b 5d END
      ∷ []));
  image = codes "HVS1" ++ hex "0100 0100 0200 0000";
  said = asks "submit" ∷ tells "OK 0"
      ∷ [];
  left = codes "HVS2" ++ hex "22222222222222222222222222222222 0100 0100 0200 0000";
}

submission_not_denied_by_a_removed_question-holds : Holds submission_not_denied_by_a_removed_question
unfolding computing
submission_not_denied_by_a_removed_question-holds = record {
  stores = (1, hex "0000") ∷ [];
  opened = record { sound = refl; spelled = record { form = inr refl; laid = refl } };
  answers = refl;
  ended = refl;
  image = refl;
}

abbrev pub submission_denied_by_the_first : Case
submission_denied_by_the_first = record usual {
  list = forms_list (opening 2 ++ hexes
      ("068e 0300 0000 0100 0100 0000 00 00"  -- 39 CHECKBOX
      ∷ "  1084 0000"  -- 47 NO_SUBMIT_IF
      ∷ "    1206 0100 0100"  -- 4b EQ_ID_VAL
      ∷ "  2902 2902"  -- 51 53 END
      ∷ "1a8e 0400 0000 0200 0000 0000 00 00"  -- 55 DATE
      ∷ "  1084 0800"  -- 63 NO_SUBMIT_IF
      ∷ "    4602"  -- 67 TRUE
      ∷ "  2902 2902 2902 2902"  -- 69 6b 6d 6f END
      ∷ []));
  image = codes "HVS1" ++ hex "0100 0100 0200 0000";
  said = asks "submit" ∷ tells "DENIED nosubmitif at 00000063 #8"
      ∷ asks "set 1 1" ∷ tells "OK"
      ∷ asks "submit" ∷ tells "DENIED nosubmitif at 00000047 "
      ∷ [];
  left = codes "HVS2" ++ hex "22222222222222222222222222222222 0100 0100 0200 0000";
}

submission_denied_by_the_first-holds : Holds submission_denied_by_the_first
unfolding computing
submission_denied_by_the_first-holds = record {
  stores = (1, hex "0000") ∷ [];
  opened = record { sound = refl; spelled = record { form = inr refl; laid = refl } };
  answers = refl;
  ended = refl;
  image = refl;
}

-- Worked cases of expressions and rules, as tests/rule_cases writes them.
use Rattle.std.proofs.Common.{refl, inr}
use Rattle.std.specs.Prelude.{[], ◌∷◌, ◌++◌, codes}
use Rattle.browser_rules.proofs.CaseWords.{hex, hexes, times, forms_list, opening, asks, tells, Case, usual, Holds}
use Rattle.browser_rules.proofs.cases.Computing.{computing}

-- ---- operators

abbrev pub subtract_takes_the_left_operand_first : Case
subtract_takes_the_left_operand_first = record usual {
  list = forms_list (opening 2 ++ hexes
      ("0a82"  -- 39 SUPPRESS_IF
      ∷ "  4283 08"  -- 3b UINT8
      ∷ "    4203 09"  -- 3e UINT8
      ∷ "    3b02"  -- 41 SUBTRACT
      ∷ "    5402"  -- 43 ONES
      ∷ "    2f02"  -- 45 EQUAL
      ∷ "  2902"  -- 47 END
      ∷ "  060e 0300 0000 0100 0100 0000 00 00"  -- 49 CHECKBOX
      ∷ "2902 2902 2902"  -- 57 59 5b END
      ∷ []));
  image = codes "HVS1" ++ hex "0100 0100 0200 0000";
  said = asks "page" ∷ tells "FORM 1 #2"
      ∷ asks "set 1 0" ∷ tells "DENIED suppressif at 00000039"
      ∷ [];
  left = codes "HVS2" ++ hex "22222222222222222222222222222222 0100 0100 0200 0000";
}

subtract_takes_the_left_operand_first-holds : Holds subtract_takes_the_left_operand_first
unfolding computing
subtract_takes_the_left_operand_first-holds = record {
  stores = (1, hex "0000") ∷ [];
  opened = record { sound = refl; spelled = record { form = inr refl; laid = refl } };
  answers = refl;
  ended = refl;
  image = refl;
}

abbrev pub right_operand_is_the_last : Case
right_operand_is_the_last = record usual {
  list = forms_list (opening 2 ++ hexes
      ("0a82"  -- 39 SUPPRESS_IF
      ∷ "  4283 08"  -- 3b UINT8
      ∷ "    4203 09"  -- 3e UINT8
      ∷ "    3b02"  -- 41 SUBTRACT
      ∷ "    5402"  -- 43 ONES
      ∷ "    2f02"  -- 45 EQUAL
      ∷ "  2902"  -- 47 END
      ∷ "  060e 0300 0000 0100 0100 0000 00 00"  -- 49 CHECKBOX
      ∷ "2902 2902 2902"  -- 57 59 5b END
      ∷ []));
  image = codes "HVS1" ++ hex "0100 0100 0200 0000";
  said = asks "why 1" ∷ tells "DENIED suppressif at 00000039"
      ∷ [];
  left = codes "HVS2" ++ hex "22222222222222222222222222222222 0100 0100 0200 0000";
}

right_operand_is_the_last-holds : Holds right_operand_is_the_last
unfolding computing
right_operand_is_the_last-holds = record {
  stores = (1, hex "0000") ∷ [];
  opened = record { sound = refl; spelled = record { form = inr refl; laid = refl } };
  answers = refl;
  ended = refl;
  image = refl;
}

abbrev pub quotient_of_7_and_3_holds : Case
quotient_of_7_and_3_holds = record usual {
  list = forms_list (opening 2 ++ hexes
      ("0a82"  -- 39 SUPPRESS_IF
      ∷ "  4283 07"  -- 3b UINT8
      ∷ "    4203 03"  -- 3e UINT8
      ∷ "    3d02"  -- 41 DIVIDE
      ∷ "  2902"  -- 43 END
      ∷ "  060e 0300 0000 0100 0100 0000 00 00"  -- 45 CHECKBOX
      ∷ "2902 2902 2902"  -- 53 55 57 END
      ∷ []));
  image = codes "HVS1" ++ hex "0100 0100 0200 0000";
  said = asks "page" ∷ tells "FORM 1 #2"
      ∷ asks "set 1 0" ∷ tells "DENIED suppressif at 00000039"
      ∷ [];
  left = codes "HVS2" ++ hex "22222222222222222222222222222222 0100 0100 0200 0000";
}

quotient_of_7_and_3_holds-holds : Holds quotient_of_7_and_3_holds
unfolding computing
quotient_of_7_and_3_holds-holds = record {
  stores = (1, hex "0000") ∷ [];
  opened = record { sound = refl; spelled = record { form = inr refl; laid = refl } };
  answers = refl;
  ended = refl;
  image = refl;
}

abbrev pub quotient_is_whole : Case
quotient_is_whole = record usual {
  list = forms_list (opening 2 ++ hexes
      ("0a82"  -- 39 SUPPRESS_IF
      ∷ "  4283 07"  -- 3b UINT8
      ∷ "    4203 03"  -- 3e UINT8
      ∷ "    3d02"  -- 41 DIVIDE
      ∷ "    4203 02"  -- 43 UINT8
      ∷ "    2f02"  -- 46 EQUAL
      ∷ "  2902"  -- 48 END
      ∷ "  060e 0300 0000 0100 0100 0000 00 00"  -- 4a CHECKBOX
      ∷ "2902 2902 2902"  -- 58 5a 5c END
      ∷ []));
  image = codes "HVS1" ++ hex "0100 0100 0200 0000";
  said = asks "page" ∷ tells "FORM 1 #2"
      ∷ asks "set 1 0" ∷ tells "DENIED suppressif at 00000039"
      ∷ [];
  left = codes "HVS2" ++ hex "22222222222222222222222222222222 0100 0100 0200 0000";
}

quotient_is_whole-holds : Holds quotient_is_whole
unfolding computing
quotient_is_whole-holds = record {
  stores = (1, hex "0000") ∷ [];
  opened = record { sound = refl; spelled = record { form = inr refl; laid = refl } };
  answers = refl;
  ended = refl;
  image = refl;
}

abbrev pub remainder_of_7_and_3_holds : Case
remainder_of_7_and_3_holds = record usual {
  list = forms_list (opening 2 ++ hexes
      ("0a82"  -- 39 SUPPRESS_IF
      ∷ "  4283 07"  -- 3b UINT8
      ∷ "    4203 03"  -- 3e UINT8
      ∷ "    3e02"  -- 41 MODULO
      ∷ "  2902"  -- 43 END
      ∷ "  060e 0300 0000 0100 0100 0000 00 00"  -- 45 CHECKBOX
      ∷ "2902 2902 2902"  -- 53 55 57 END
      ∷ []));
  image = codes "HVS1" ++ hex "0100 0100 0200 0000";
  said = asks "page" ∷ tells "FORM 1 #2"
      ∷ asks "set 1 0" ∷ tells "DENIED suppressif at 00000039"
      ∷ [];
  left = codes "HVS2" ++ hex "22222222222222222222222222222222 0100 0100 0200 0000";
}

remainder_of_7_and_3_holds-holds : Holds remainder_of_7_and_3_holds
unfolding computing
remainder_of_7_and_3_holds-holds = record {
  stores = (1, hex "0000") ∷ [];
  opened = record { sound = refl; spelled = record { form = inr refl; laid = refl } };
  answers = refl;
  ended = refl;
  image = refl;
}

abbrev pub remainder : Case
remainder = record usual {
  list = forms_list (opening 2 ++ hexes
      ("0a82"  -- 39 SUPPRESS_IF
      ∷ "  4283 07"  -- 3b UINT8
      ∷ "    4203 03"  -- 3e UINT8
      ∷ "    3e02"  -- 41 MODULO
      ∷ "    5302"  -- 43 ONE
      ∷ "    2f02"  -- 45 EQUAL
      ∷ "  2902"  -- 47 END
      ∷ "  060e 0300 0000 0100 0100 0000 00 00"  -- 49 CHECKBOX
      ∷ "2902 2902 2902"  -- 57 59 5b END
      ∷ []));
  image = codes "HVS1" ++ hex "0100 0100 0200 0000";
  said = asks "page" ∷ tells "FORM 1 #2"
      ∷ asks "set 1 0" ∷ tells "DENIED suppressif at 00000039"
      ∷ [];
  left = codes "HVS2" ++ hex "22222222222222222222222222222222 0100 0100 0200 0000";
}

remainder-holds : Holds remainder
unfolding computing
remainder-holds = record {
  stores = (1, hex "0000") ∷ [];
  opened = record { sound = refl; spelled = record { form = inr refl; laid = refl } };
  answers = refl;
  ended = refl;
  image = refl;
}

abbrev pub division_by_0_is_undefined : Case
division_by_0_is_undefined = record usual {
  list = forms_list (opening 2 ++ hexes
      ("0a82"  -- 39 SUPPRESS_IF
      ∷ "  4283 07"  -- 3b UINT8
      ∷ "    5202"  -- 3e ZERO
      ∷ "    3d02"  -- 40 DIVIDE
      ∷ "  2902"  -- 42 END
      ∷ "  060e 0300 0000 0100 0100 0000 00 00"  -- 44 CHECKBOX
      ∷ "2902 2902 2902"  -- 52 54 56 END
      ∷ []));
  image = codes "HVS1" ++ hex "0100 0100 0200 0000";
  said = asks "page" ∷ tells "FORM 1 #2" ∷ tells "  1 *     1 #3                       [ ]"
      ∷ [];
  left = codes "HVS2" ++ hex "22222222222222222222222222222222 0100 0100 0200 0000";
}

division_by_0_is_undefined-holds : Holds division_by_0_is_undefined
unfolding computing
division_by_0_is_undefined-holds = record {
  stores = (1, hex "0000") ∷ [];
  opened = record { sound = refl; spelled = record { form = inr refl; laid = refl } };
  answers = refl;
  ended = refl;
  image = refl;
}

abbrev pub division_by_a_byte_of_0_is_undefined : Case
division_by_a_byte_of_0_is_undefined = record usual {
  list = forms_list (opening 2 ++ hexes
      ("0a82"  -- 39 SUPPRESS_IF
      ∷ "  4283 07"  -- 3b UINT8
      ∷ "    4203 00"  -- 3e UINT8
      ∷ "    3d02"  -- 41 DIVIDE
      ∷ "  2902"  -- 43 END
      ∷ "  060e 0300 0000 0100 0100 0000 00 00"  -- 45 CHECKBOX
      ∷ "2902 2902 2902"  -- 53 55 57 END
      ∷ []));
  image = codes "HVS1" ++ hex "0100 0100 0200 0000";
  said = asks "page" ∷ tells "FORM 1 #2" ∷ tells "  1 *     1 #3                       [ ]"
      ∷ [];
  left = codes "HVS2" ++ hex "22222222222222222222222222222222 0100 0100 0200 0000";
}

division_by_a_byte_of_0_is_undefined-holds : Holds division_by_a_byte_of_0_is_undefined
unfolding computing
division_by_a_byte_of_0_is_undefined-holds = record {
  stores = (1, hex "0000") ∷ [];
  opened = record { sound = refl; spelled = record { form = inr refl; laid = refl } };
  answers = refl;
  ended = refl;
  image = refl;
}

abbrev pub one_shifted_by_64_does_not_hold : Case
one_shifted_by_64_does_not_hold = record usual {
  list = forms_list (opening 2 ++ hexes
      ("0a82"  -- 39 SUPPRESS_IF
      ∷ "  5382"  -- 3b ONE
      ∷ "    4203 40"  -- 3d UINT8
      ∷ "    3802"  -- 40 SHIFT_LEFT
      ∷ "  2902"  -- 42 END
      ∷ "  060e 0300 0000 0100 0100 0000 00 00"  -- 44 CHECKBOX
      ∷ "2902 2902 2902"  -- 52 54 56 END
      ∷ []));
  image = codes "HVS1" ++ hex "0100 0100 0200 0000";
  said = asks "page" ∷ tells "FORM 1 #2" ∷ tells "  1 *     1 #3                       [ ]"
      ∷ [];
  left = codes "HVS2" ++ hex "22222222222222222222222222222222 0100 0100 0200 0000";
}

one_shifted_by_64_does_not_hold-holds : Holds one_shifted_by_64_does_not_hold
unfolding computing
one_shifted_by_64_does_not_hold-holds = record {
  stores = (1, hex "0000") ∷ [];
  opened = record { sound = refl; spelled = record { form = inr refl; laid = refl } };
  answers = refl;
  ended = refl;
  image = refl;
}

abbrev pub shift_by_64_leaves_0 : Case
shift_by_64_leaves_0 = record usual {
  list = forms_list (opening 2 ++ hexes
      ("0a82"  -- 39 SUPPRESS_IF
      ∷ "  5382"  -- 3b ONE
      ∷ "    4203 40"  -- 3d UINT8
      ∷ "    3802"  -- 40 SHIFT_LEFT
      ∷ "    5202"  -- 42 ZERO
      ∷ "    2f02"  -- 44 EQUAL
      ∷ "  2902"  -- 46 END
      ∷ "  060e 0300 0000 0100 0100 0000 00 00"  -- 48 CHECKBOX
      ∷ "2902 2902 2902"  -- 56 58 5a END
      ∷ []));
  image = codes "HVS1" ++ hex "0100 0100 0200 0000";
  said = asks "page" ∷ tells "FORM 1 #2"
      ∷ asks "set 1 0" ∷ tells "DENIED suppressif at 00000039"
      ∷ [];
  left = codes "HVS2" ++ hex "22222222222222222222222222222222 0100 0100 0200 0000";
}

shift_by_64_leaves_0-holds : Holds shift_by_64_leaves_0
unfolding computing
shift_by_64_leaves_0-holds = record {
  stores = (1, hex "0000") ∷ [];
  opened = record { sound = refl; spelled = record { form = inr refl; laid = refl } };
  answers = refl;
  ended = refl;
  image = refl;
}

abbrev pub ones_and_one_do_not_hold : Case
ones_and_one_do_not_hold = record usual {
  list = forms_list (opening 2 ++ hexes
      ("0a82"  -- 39 SUPPRESS_IF
      ∷ "  5482"  -- 3b ONES
      ∷ "    5302"  -- 3d ONE
      ∷ "    3a02"  -- 3f ADD
      ∷ "  2902"  -- 41 END
      ∷ "  060e 0300 0000 0100 0100 0000 00 00"  -- 43 CHECKBOX
      ∷ "2902 2902 2902"  -- 51 53 55 END
      ∷ []));
  image = codes "HVS1" ++ hex "0100 0100 0200 0000";
  said = asks "page" ∷ tells "FORM 1 #2" ∷ tells "  1 *     1 #3                       [ ]"
      ∷ [];
  left = codes "HVS2" ++ hex "22222222222222222222222222222222 0100 0100 0200 0000";
}

ones_and_one_do_not_hold-holds : Holds ones_and_one_do_not_hold
unfolding computing
ones_and_one_do_not_hold-holds = record {
  stores = (1, hex "0000") ∷ [];
  opened = record { sound = refl; spelled = record { form = inr refl; laid = refl } };
  answers = refl;
  ended = refl;
  image = refl;
}

abbrev pub sum_loses_its_highest_bit : Case
sum_loses_its_highest_bit = record usual {
  list = forms_list (opening 2 ++ hexes
      ("0a82"  -- 39 SUPPRESS_IF
      ∷ "  5482"  -- 3b ONES
      ∷ "    5302"  -- 3d ONE
      ∷ "    3a02"  -- 3f ADD
      ∷ "    5202"  -- 41 ZERO
      ∷ "    2f02"  -- 43 EQUAL
      ∷ "  2902"  -- 45 END
      ∷ "  060e 0300 0000 0100 0100 0000 00 00"  -- 47 CHECKBOX
      ∷ "2902 2902 2902"  -- 55 57 59 END
      ∷ []));
  image = codes "HVS1" ++ hex "0100 0100 0200 0000";
  said = asks "page" ∷ tells "FORM 1 #2"
      ∷ asks "set 1 0" ∷ tells "DENIED suppressif at 00000039"
      ∷ [];
  left = codes "HVS2" ++ hex "22222222222222222222222222222222 0100 0100 0200 0000";
}

sum_loses_its_highest_bit-holds : Holds sum_loses_its_highest_bit
unfolding computing
sum_loses_its_highest_bit-holds = record {
  stores = (1, hex "0000") ∷ [];
  opened = record { sound = refl; spelled = record { form = inr refl; laid = refl } };
  answers = refl;
  ended = refl;
  image = refl;
}

abbrev pub boolean_counts_as_1 : Case
boolean_counts_as_1 = record usual {
  list = forms_list (opening 2 ++ hexes
      ("0a82"  -- 39 SUPPRESS_IF
      ∷ "  4682"  -- 3b TRUE
      ∷ "    5302"  -- 3d ONE
      ∷ "    2f02"  -- 3f EQUAL
      ∷ "  2902"  -- 41 END
      ∷ "  060e 0300 0000 0100 0100 0000 00 00"  -- 43 CHECKBOX
      ∷ "2902 2902 2902"  -- 51 53 55 END
      ∷ []));
  image = codes "HVS1" ++ hex "0100 0100 0200 0000";
  said = asks "page" ∷ tells "FORM 1 #2"
      ∷ asks "set 1 0" ∷ tells "DENIED suppressif at 00000039"
      ∷ [];
  left = codes "HVS2" ++ hex "22222222222222222222222222222222 0100 0100 0200 0000";
}

boolean_counts_as_1-holds : Holds boolean_counts_as_1
unfolding computing
boolean_counts_as_1-holds = record {
  stores = (1, hex "0000") ∷ [];
  opened = record { sound = refl; spelled = record { form = inr refl; laid = refl } };
  answers = refl;
  ended = refl;
  image = refl;
}

abbrev pub and_takes_no_numbers : Case
and_takes_no_numbers = record usual {
  list = forms_list (opening 2 ++ hexes
      ("0a82"  -- 39 SUPPRESS_IF
      ∷ "  5382"  -- 3b ONE
      ∷ "    5302"  -- 3d ONE
      ∷ "    1502"  -- 3f AND
      ∷ "  2902"  -- 41 END
      ∷ "  060e 0300 0000 0100 0100 0000 00 00"  -- 43 CHECKBOX
      ∷ "2902 2902 2902"  -- 51 53 55 END
      ∷ []));
  image = codes "HVS1" ++ hex "0100 0100 0200 0000";
  said = asks "page" ∷ tells "FORM 1 #2" ∷ tells "  1 *     1 #3                       [ ]"
      ∷ [];
  left = codes "HVS2" ++ hex "22222222222222222222222222222222 0100 0100 0200 0000";
}

and_takes_no_numbers-holds : Holds and_takes_no_numbers
unfolding computing
and_takes_no_numbers-holds = record {
  stores = (1, hex "0000") ∷ [];
  opened = record { sound = refl; spelled = record { form = inr refl; laid = refl } };
  answers = refl;
  ended = refl;
  image = refl;
}

abbrev pub and_of_one_and_false_is_undefined : Case
and_of_one_and_false_is_undefined = record usual {
  list = forms_list (opening 2 ++ hexes
      ("0a82"  -- 39 SUPPRESS_IF
      ∷ "  5382"  -- 3b ONE
      ∷ "    4702"  -- 3d FALSE
      ∷ "    1502"  -- 3f AND
      ∷ "  2902"  -- 41 END
      ∷ "  060e 0300 0000 0100 0100 0000 00 00"  -- 43 CHECKBOX
      ∷ "2902 2902 2902"  -- 51 53 55 END
      ∷ []));
  image = codes "HVS1" ++ hex "0100 0100 0200 0000";
  said = asks "page" ∷ tells "FORM 1 #2" ∷ tells "  1 *     1 #3                       [ ]"
      ∷ [];
  left = codes "HVS2" ++ hex "22222222222222222222222222222222 0100 0100 0200 0000";
}

and_of_one_and_false_is_undefined-holds : Holds and_of_one_and_false_is_undefined
unfolding computing
and_of_one_and_false_is_undefined-holds = record {
  stores = (1, hex "0000") ∷ [];
  opened = record { sound = refl; spelled = record { form = inr refl; laid = refl } };
  answers = refl;
  ended = refl;
  image = refl;
}

abbrev pub not_of_an_unknown_answer_is_undefined : Case
not_of_an_unknown_answer_is_undefined = record usual {
  list = forms_list (opening 2 ++ hexes
      ("0a82"  -- 39 SUPPRESS_IF
      ∷ "  1286 0900 0000"  -- 3b EQ_ID_VAL
      ∷ "    1702"  -- 41 NOT
      ∷ "  2902"  -- 43 END
      ∷ "  060e 0300 0000 0100 0100 0000 00 00"  -- 45 CHECKBOX
      ∷ "2902 2902 2902"  -- 53 55 57 END
      ∷ []));
  image = codes "HVS1" ++ hex "0100 0100 0200 0000";
  said = asks "page" ∷ tells "FORM 1 #2" ∷ tells "  1 *     1 #3                       [ ]"
      ∷ [];
  left = codes "HVS2" ++ hex "22222222222222222222222222222222 0100 0100 0200 0000";
}

not_of_an_unknown_answer_is_undefined-holds : Holds not_of_an_unknown_answer_is_undefined
unfolding computing
not_of_an_unknown_answer_is_undefined-holds = record {
  stores = (1, hex "0000") ∷ [];
  opened = record { sound = refl; spelled = record { form = inr refl; laid = refl } };
  answers = refl;
  ended = refl;
  image = refl;
}

abbrev pub undefined_does_not_hold : Case
undefined_does_not_hold = record usual {
  list = forms_list (opening 2 ++ hexes
      ("0a82"  -- 39 SUPPRESS_IF
      ∷ "  1286 0900 0000"  -- 3b EQ_ID_VAL
      ∷ "    1702"  -- 41 NOT
      ∷ "  2902"  -- 43 END
      ∷ "  060e 0300 0000 0100 0100 0000 00 00"  -- 45 CHECKBOX
      ∷ "2902 2902 2902"  -- 53 55 57 END
      ∷ []));
  image = codes "HVS1" ++ hex "0100 0100 0200 0000";
  said = asks "why 1" ∷ tells "OK"
      ∷ [];
  left = codes "HVS2" ++ hex "22222222222222222222222222222222 0100 0100 0200 0000";
}

undefined_does_not_hold-holds : Holds undefined_does_not_hold
unfolding computing
undefined_does_not_hold-holds = record {
  stores = (1, hex "0000") ∷ [];
  opened = record { sound = refl; spelled = record { form = inr refl; laid = refl } };
  answers = refl;
  ended = refl;
  image = refl;
}

abbrev pub number_holds : Case
number_holds = record usual {
  list = forms_list (opening 2 ++ hexes
      ("0a82"  -- 39 SUPPRESS_IF
      ∷ "  4203 02"  -- 3b UINT8
      ∷ "  060e 0300 0000 0100 0100 0000 00 00"  -- 3e CHECKBOX
      ∷ "2902 2902 2902"  -- 4c 4e 50 END
      ∷ []));
  image = codes "HVS1" ++ hex "0100 0100 0200 0000";
  said = asks "page" ∷ tells "FORM 1 #2"
      ∷ asks "set 1 0" ∷ tells "DENIED suppressif at 00000039"
      ∷ [];
  left = codes "HVS2" ++ hex "22222222222222222222222222222222 0100 0100 0200 0000";
}

number_holds-holds : Holds number_holds
unfolding computing
number_holds-holds = record {
  stores = (1, hex "0000") ∷ [];
  opened = record { sound = refl; spelled = record { form = inr refl; laid = refl } };
  answers = refl;
  ended = refl;
  image = refl;
}

abbrev pub least_is_at_most_itself : Case
least_is_at_most_itself = record usual {
  list = forms_list (opening 2 ++ hexes
      ("0a82"  -- 39 SUPPRESS_IF
      ∷ "  4283 02"  -- 3b UINT8
      ∷ "    4203 02"  -- 3e UINT8
      ∷ "    3402"  -- 41 LESS_EQUAL
      ∷ "  2902"  -- 43 END
      ∷ "  060e 0300 0000 0100 0100 0000 00 00"  -- 45 CHECKBOX
      ∷ "2902 2902 2902"  -- 53 55 57 END
      ∷ []));
  image = codes "HVS1" ++ hex "0100 0100 0200 0000";
  said = asks "why 1" ∷ tells "DENIED suppressif at 00000039"
      ∷ [];
  left = codes "HVS2" ++ hex "22222222222222222222222222222222 0100 0100 0200 0000";
}

least_is_at_most_itself-holds : Holds least_is_at_most_itself
unfolding computing
least_is_at_most_itself-holds = record {
  stores = (1, hex "0000") ∷ [];
  opened = record { sound = refl; spelled = record { form = inr refl; laid = refl } };
  answers = refl;
  ended = refl;
  image = refl;
}

abbrev pub bits_of_both_stand_in_the_or : Case
bits_of_both_stand_in_the_or = record usual {
  list = forms_list (opening 2 ++ hexes
      ("0a82"  -- 39 SUPPRESS_IF
      ∷ "  4283 03"  -- 3b UINT8
      ∷ "    4203 02"  -- 3e UINT8
      ∷ "    3602"  -- 41 BITWISE_OR
      ∷ "    4203 03"  -- 43 UINT8
      ∷ "    2f02"  -- 46 EQUAL
      ∷ "  2902"  -- 48 END
      ∷ "  060e 0300 0000 0100 0100 0000 00 00"  -- 4a CHECKBOX
      ∷ "2902 2902 2902"  -- 58 5a 5c END
      ∷ []));
  image = codes "HVS1" ++ hex "0100 0100 0200 0000";
  said = asks "why 1" ∷ tells "DENIED suppressif at 00000039"
      ∷ [];
  left = codes "HVS2" ++ hex "22222222222222222222222222222222 0100 0100 0200 0000";
}

bits_of_both_stand_in_the_or-holds : Holds bits_of_both_stand_in_the_or
unfolding computing
bits_of_both_stand_in_the_or-holds = record {
  stores = (1, hex "0000") ∷ [];
  opened = record { sound = refl; spelled = record { form = inr refl; laid = refl } };
  answers = refl;
  ended = refl;
  image = refl;
}

abbrev pub all_bits_of_0_are_turned : Case
all_bits_of_0_are_turned = record usual {
  list = forms_list (opening 2 ++ hexes
      ("0a82"  -- 39 SUPPRESS_IF
      ∷ "  4283 00"  -- 3b UINT8
      ∷ "    3702"  -- 3e BITWISE_NOT
      ∷ "    5402"  -- 40 ONES
      ∷ "    2f02"  -- 42 EQUAL
      ∷ "  2902"  -- 44 END
      ∷ "  060e 0300 0000 0100 0100 0000 00 00"  -- 46 CHECKBOX
      ∷ "2902 2902 2902"  -- 54 56 58 END
      ∷ []));
  image = codes "HVS1" ++ hex "0100 0100 0200 0000";
  said = asks "why 1" ∷ tells "DENIED suppressif at 00000039"
      ∷ [];
  left = codes "HVS2" ++ hex "22222222222222222222222222222222 0100 0100 0200 0000";
}

all_bits_of_0_are_turned-holds : Holds all_bits_of_0_are_turned
unfolding computing
all_bits_of_0_are_turned-holds = record {
  stores = (1, hex "0000") ∷ [];
  opened = record { sound = refl; spelled = record { form = inr refl; laid = refl } };
  answers = refl;
  ended = refl;
  image = refl;
}

-- ---- answers

abbrev pub any_byte_but_zero_is_true : Case
any_byte_but_zero_is_true = record usual {
  list = forms_list (opening 2 ++ hexes
      ("0a82"  -- 39 SUPPRESS_IF
      ∷ "  1206 0200 0100"  -- 3b EQ_ID_VAL
      ∷ "  060e 0300 0000 0100 0100 0000 00 00"  -- 41 CHECKBOX
      ∷ "2902"  -- 4f END
      ∷ "060e 0400 0000 0200 0100 0100 00 00"  -- 51 CHECKBOX
      ∷ "2902 2902"  -- 5f 61 END
      ∷ []));
  image = codes "HVS1" ++ hex "0100 0100 0200 0002";
  said = asks "page" ∷ tells "FORM 1 #2" ∷ tells "  1 *     2 #4                       [x]"
      ∷ asks "set 1 1" ∷ tells "DENIED suppressif at 00000039"
      ∷ asks "set 2 0" ∷ tells "OK"
      ∷ asks "set 1 1" ∷ tells "OK"
      ∷ [];
  left = codes "HVS2" ++ hex "22222222222222222222222222222222 0100 0100 0200 0002";
}

any_byte_but_zero_is_true-holds : Holds any_byte_but_zero_is_true
unfolding computing
any_byte_but_zero_is_true-holds = record {
  stores = (1, hex "0002") ∷ [];
  opened = record { sound = refl; spelled = record { form = inr refl; laid = refl } };
  answers = refl;
  ended = refl;
  image = refl;
}

abbrev pub any_byte_of_a_checkbox_but_0_is_1 : Case
any_byte_of_a_checkbox_but_0_is_1 = record usual {
  list = forms_list (opening 2 ++ hexes
      ("0a82"  -- 39 SUPPRESS_IF
      ∷ "  1206 0200 0100"  -- 3b EQ_ID_VAL
      ∷ "  060e 0300 0000 0100 0100 0000 00 00"  -- 41 CHECKBOX
      ∷ "2902"  -- 4f END
      ∷ "060e 0400 0000 0200 0100 0100 00 00"  -- 51 CHECKBOX
      ∷ "2902 2902"  -- 5f 61 END
      ∷ []));
  image = codes "HVS1" ++ hex "0100 0100 0200 0002";
  said = asks "why 1" ∷ tells "DENIED suppressif at 00000039"
      ∷ [];
  left = codes "HVS2" ++ hex "22222222222222222222222222222222 0100 0100 0200 0002";
}

any_byte_of_a_checkbox_but_0_is_1-holds : Holds any_byte_of_a_checkbox_but_0_is_1
unfolding computing
any_byte_of_a_checkbox_but_0_is_1-holds = record {
  stores = (1, hex "0002") ∷ [];
  opened = record { sound = refl; spelled = record { form = inr refl; laid = refl } };
  answers = refl;
  ended = refl;
  image = refl;
}

abbrev pub answer_of_a_question : Case
answer_of_a_question = record usual {
  list = forms_list (opening 2 ++ hexes
      ("0a82"  -- 39 SUPPRESS_IF
      ∷ "  4004 0100"  -- 3b QUESTION_REF1
      ∷ "  060e 0300 0000 0100 0100 0000 00 00"  -- 3f CHECKBOX
      ∷ "2902 2902 2902"  -- 4d 4f 51 END
      ∷ []));
  image = codes "HVS1" ++ hex "0100 0100 0200 0100";
  said = asks "page" ∷ tells "FORM 1 #2"
      ∷ asks "set 1 0" ∷ tells "DENIED suppressif at 00000039"
      ∷ [];
  left = codes "HVS2" ++ hex "22222222222222222222222222222222 0100 0100 0200 0100";
}

answer_of_a_question-holds : Holds answer_of_a_question
unfolding computing
answer_of_a_question-holds = record {
  stores = (1, hex "0100") ∷ [];
  opened = record { sound = refl; spelled = record { form = inr refl; laid = refl } };
  answers = refl;
  ended = refl;
  image = refl;
}

abbrev pub answers_are_equal : Case
answers_are_equal = record usual {
  list = forms_list (opening 2 ++ hexes
      ("0a82"  -- 39 SUPPRESS_IF
      ∷ "  1306 0100 0100"  -- 3b EQ_ID_ID
      ∷ "  060e 0300 0000 0100 0100 0000 00 00"  -- 41 CHECKBOX
      ∷ "2902 2902 2902"  -- 4f 51 53 END
      ∷ []));
  image = codes "HVS1" ++ hex "0100 0100 0200 0000";
  said = asks "page" ∷ tells "FORM 1 #2"
      ∷ asks "set 1 0" ∷ tells "DENIED suppressif at 00000039"
      ∷ [];
  left = codes "HVS2" ++ hex "22222222222222222222222222222222 0100 0100 0200 0000";
}

answers_are_equal-holds : Holds answers_are_equal
unfolding computing
answers_are_equal-holds = record {
  stores = (1, hex "0000") ∷ [];
  opened = record { sound = refl; spelled = record { form = inr refl; laid = refl } };
  answers = refl;
  ended = refl;
  image = refl;
}

abbrev pub answer_in_a_list : Case
answer_in_a_list = record usual {
  list = forms_list (opening 2 ++ hexes
      ("0a82"  -- 39 SUPPRESS_IF
      ∷ "  140a 0100 0200 0700 0000"  -- 3b EQ_ID_VAL_LIST
      ∷ "  060e 0300 0000 0100 0100 0000 00 00"  -- 45 CHECKBOX
      ∷ "2902 2902 2902"  -- 53 55 57 END
      ∷ []));
  image = codes "HVS1" ++ hex "0100 0100 0200 0000";
  said = asks "page" ∷ tells "FORM 1 #2"
      ∷ asks "set 1 0" ∷ tells "DENIED suppressif at 00000039"
      ∷ [];
  left = codes "HVS2" ++ hex "22222222222222222222222222222222 0100 0100 0200 0000";
}

answer_in_a_list-holds : Holds answer_in_a_list
unfolding computing
answer_in_a_list-holds = record {
  stores = (1, hex "0000") ∷ [];
  opened = record { sound = refl; spelled = record { form = inr refl; laid = refl } };
  answers = refl;
  ended = refl;
  image = refl;
}

abbrev pub value_of_a_list_has_two_bytes : Case
value_of_a_list_has_two_bytes = record usual {
  list = forms_list (opening 2 ++ hexes
      ("0a82"  -- 39 SUPPRESS_IF
      ∷ "  1408 0200 0100 0701"  -- 3b EQ_ID_VAL_LIST
      ∷ "  060e 0300 0000 0100 0100 0000 00 00"  -- 43 CHECKBOX
      ∷ "2902"  -- 51 END
      ∷ "0711 0400 0000 0200 0100 0100 00 10 00 09 04"  -- 53 NUMERIC
      ∷ "2902 2902"  -- 64 66 END
      ∷ []));
  image = codes "HVS1" ++ hex "0100 0100 0200 0007";
  said = asks "why 1" ∷ tells "OK"
      ∷ [];
  left = codes "HVS2" ++ hex "22222222222222222222222222222222 0100 0100 0200 0007";
}

value_of_a_list_has_two_bytes-holds : Holds value_of_a_list_has_two_bytes
unfolding computing
value_of_a_list_has_two_bytes-holds = record {
  stores = (1, hex "0007") ∷ [];
  opened = record { sound = refl; spelled = record { form = inr refl; laid = refl } };
  answers = refl;
  ended = refl;
  image = refl;
}

abbrev pub list_without_values : Case
list_without_values = record usual {
  list = forms_list (opening 2 ++ hexes
      ("0a82"  -- 39 SUPPRESS_IF
      ∷ "  1406 0100 0000"  -- 3b EQ_ID_VAL_LIST
      ∷ "  060e 0300 0000 0100 0100 0000 00 00"  -- 41 CHECKBOX
      ∷ "2902 2902 2902"  -- 4f 51 53 END
      ∷ []));
  image = codes "HVS1" ++ hex "0100 0100 0200 0000";
  said = asks "page" ∷ tells "FORM 1 #2" ∷ tells "  1 *     1 #3                       [ ]"
      ∷ [];
  left = codes "HVS2" ++ hex "22222222222222222222222222222222 0100 0100 0200 0000";
}

list_without_values-holds : Holds list_without_values
unfolding computing
list_without_values-holds = record {
  stores = (1, hex "0000") ∷ [];
  opened = record { sound = refl; spelled = record { form = inr refl; laid = refl } };
  answers = refl;
  ended = refl;
  image = refl;
}

abbrev pub number_answers_without_sign : Case
number_answers_without_sign = record usual {
  list = forms_list (opening 2 ++ hexes
      ("0a82"  -- 39 SUPPRESS_IF
      ∷ "  1206 0200 ff00"  -- 3b EQ_ID_VAL
      ∷ "  060e 0300 0000 0100 0100 0000 00 00"  -- 41 CHECKBOX
      ∷ "2902"  -- 4f END
      ∷ "0711 0400 0000 0200 0100 0100 00 00 80 7f 04"  -- 51 NUMERIC
      ∷ "2902 2902"  -- 62 64 END
      ∷ []));
  image = codes "HVS1" ++ hex "0100 0100 0200 00ff";
  said = asks "set 1 1" ∷ tells "DENIED suppressif at 00000039"
      ∷ asks "set 2 0" ∷ tells "OK"
      ∷ asks "set 1 1" ∷ tells "OK"
      ∷ [];
  left = codes "HVS2" ++ hex "22222222222222222222222222222222 0100 0100 0200 00ff";
}

number_answers_without_sign-holds : Holds number_answers_without_sign
unfolding computing
number_answers_without_sign-holds = record {
  stores = (1, hex "00ff") ∷ [];
  opened = record { sound = refl; spelled = record { form = inr refl; laid = refl } };
  answers = refl;
  ended = refl;
  image = refl;
}

abbrev pub lists_are_compared : Case
lists_are_compared = record usual {
  list = forms_list (opening 5 ++ hexes
      ("0a82"  -- 39 SUPPRESS_IF
      ∷ "  4084 0200"  -- 3b QUESTION_REF1
      ∷ "    4004 0300"  -- 3f QUESTION_REF1
      ∷ "    2f02"  -- 43 EQUAL
      ∷ "  2902"  -- 45 END
      ∷ "  060e 0300 0000 0100 0100 0000 00 00"  -- 47 CHECKBOX
      ∷ "2902"  -- 55 END
      ∷ "238f 0400 0000 0200 0100 0100 00 02 00"  -- 57 ORDERED_LIST
      ∷ "  0907 0500 00 00 01"  -- 66 ONE_OF_OPTION
      ∷ "2902"  -- 6d END
      ∷ "230f 0500 0000 0300 0100 0300 00 02 00"  -- 6f ORDERED_LIST
      ∷ "2902 2902"  -- 7e 80 END
      ∷ []));
  image = codes "HVS1" ++ hex "0100 0100 0500 0001000100";
  said = asks "set 1 1" ∷ tells "DENIED suppressif at 00000039"
      ∷ asks "order 2" ∷ tells "OK"
      ∷ asks "set 1 1" ∷ tells "OK"
      ∷ [];
  left = codes "HVS2" ++ hex "22222222222222222222222222222222 0100 0100 0500 0001000100";
}

lists_are_compared-holds : Holds lists_are_compared
unfolding computing
lists_are_compared-holds = record {
  stores = (1, hex "0001000100") ∷ [];
  opened = record { sound = refl; spelled = record { form = inr refl; laid = refl } };
  answers = refl;
  ended = refl;
  image = refl;
}

abbrev pub lists_are_compared_behind_their_ends : Case
lists_are_compared_behind_their_ends = record usual {
  list = forms_list (opening 5 ++ hexes
      ("0a82"  -- 39 SUPPRESS_IF
      ∷ "  4084 0200"  -- 3b QUESTION_REF1
      ∷ "    4004 0300"  -- 3f QUESTION_REF1
      ∷ "    2f02"  -- 43 EQUAL
      ∷ "  2902"  -- 45 END
      ∷ "  060e 0300 0000 0100 0100 0000 00 00"  -- 47 CHECKBOX
      ∷ "2902"  -- 55 END
      ∷ "238f 0400 0000 0200 0100 0100 00 02 00"  -- 57 ORDERED_LIST
      ∷ "  0907 0500 00 00 01"  -- 66 ONE_OF_OPTION
      ∷ "2902"  -- 6d END
      ∷ "230f 0500 0000 0300 0100 0300 00 02 00"  -- 6f ORDERED_LIST
      ∷ "2902 2902"  -- 7e 80 END
      ∷ []));
  image = codes "HVS1" ++ hex "0100 0100 0500 0000050006";
  said = asks "set 1 1" ∷ tells "OK"
      ∷ asks "order 2" ∷ tells "OK"
      ∷ asks "set 1 0" ∷ tells "OK"
      ∷ [];
  left = codes "HVS2" ++ hex "22222222222222222222222222222222 0100 0100 0500 0000050006";
}

lists_are_compared_behind_their_ends-holds : Holds lists_are_compared_behind_their_ends
unfolding computing
lists_are_compared_behind_their_ends-holds = record {
  stores = (1, hex "0000050006") ∷ [];
  opened = record { sound = refl; spelled = record { form = inr refl; laid = refl } };
  answers = refl;
  ended = refl;
  image = refl;
}

abbrev pub texts_are_compared_to_their_ends : Case
texts_are_compared_to_their_ends = record usual {
  list = forms_list (opening 8 ++ hexes
      ("0a82"  -- 39 SUPPRESS_IF
      ∷ "  4084 0200"  -- 3b QUESTION_REF1
      ∷ "    4004 0300"  -- 3f QUESTION_REF1
      ∷ "    2f02"  -- 43 EQUAL
      ∷ "  2902"  -- 45 END
      ∷ "  060e 0300 0000 0100 0100 0000 00 00"  -- 47 CHECKBOX
      ∷ "2902"  -- 55 END
      ∷ "1c10 0400 0000 0200 0100 0200 00 00 02 00"  -- 57 STRING
      ∷ "0811 0500 0000 0300 0100 0600 00 0000 0100"  -- 67 PASSWORD
      ∷ "2902 2902"  -- 78 7a END
      ∷ []));
  image = codes "HVS1" ++ hex "0100 0100 0800 0000610000006100";
  said = asks "set 1 1" ∷ tells "DENIED suppressif at 00000039"
      ∷ asks "text 2 b" ∷ tells "OK"
      ∷ asks "set 1 1" ∷ tells "OK"
      ∷ [];
  left = codes "HVS2" ++ hex "22222222222222222222222222222222 0100 0100 0800 0000610000006100";
}

texts_are_compared_to_their_ends-holds : Holds texts_are_compared_to_their_ends
unfolding computing
texts_are_compared_to_their_ends-holds = record {
  stores = (1, hex "0000610000006100") ∷ [];
  opened = record { sound = refl; spelled = record { form = inr refl; laid = refl } };
  answers = refl;
  ended = refl;
  image = refl;
}

abbrev pub this_is_undefined_around_a_question : Case
this_is_undefined_around_a_question = record usual {
  list = forms_list (opening 2 ++ hexes
      ("0a82"  -- 39 SUPPRESS_IF
      ∷ "  5802"  -- 3b THIS
      ∷ "  060e 0300 0000 0100 0100 0000 00 00"  -- 3d CHECKBOX
      ∷ "2902 2902 2902"  -- 4b 4d 4f END
      ∷ []));
  image = codes "HVS1" ++ hex "0100 0100 0200 0000";
  said = asks "page" ∷ tells "FORM 1 #2" ∷ tells "  1 *     1 #3                       [ ]"
      ∷ [];
  left = codes "HVS2" ++ hex "22222222222222222222222222222222 0100 0100 0200 0000";
}

this_is_undefined_around_a_question-holds : Holds this_is_undefined_around_a_question
unfolding computing
this_is_undefined_around_a_question-holds = record {
  stores = (1, hex "0000") ∷ [];
  opened = record { sound = refl; spelled = record { form = inr refl; laid = refl } };
  answers = refl;
  ended = refl;
  image = refl;
}

abbrev pub this_among_options_is_the_choice : Case
this_among_options_is_the_choice = record usual {
  list = forms_list (opening 2 ++ hexes
      ("0591 0300 0000 0100 0100 0000 00 10 00 00 04"  -- 39 ONE_OF
      ∷ "  0a82"  -- 4a SUPPRESS_IF
      ∷ "    5882"  -- 4c THIS
      ∷ "      4203 01"  -- 4e UINT8
      ∷ "      2f02"  -- 51 EQUAL
      ∷ "    2902"  -- 53 END
      ∷ "    0907 0500 00 00 01"  -- 55 ONE_OF_OPTION
      ∷ "  2902"  -- 5c END
      ∷ "  0907 0600 00 00 02"  -- 5e ONE_OF_OPTION
      ∷ "2902 2902 2902"  -- 65 67 69 END
      ∷ []));
  image = codes "HVS1" ++ hex "0100 0100 0200 0000";
  said = asks "set 1 1" ∷ tells "OK"
      ∷ asks "page" ∷ tells "FORM 1 #2" ∷ tells "  1 *     1 #3                       [<?>]"
      ∷ asks "set 1 1" ∷ tells "DENIED suppressif at 0000004a"
      ∷ asks "set 1 2" ∷ tells "OK"
      ∷ [];
  left = codes "HVS2" ++ hex "22222222222222222222222222222222 0100 0100 0200 0000";
}

this_among_options_is_the_choice-holds : Holds this_among_options_is_the_choice
unfolding computing
this_among_options_is_the_choice-holds = record {
  stores = (1, hex "0000") ∷ [];
  opened = record { sound = refl; spelled = record { form = inr refl; laid = refl } };
  answers = refl;
  ended = refl;
  image = refl;
}

-- ---- rules

abbrev pub guard_by_a_rule : Case
guard_by_a_rule = record usual {
  list = forms_list (opening 2 ++ hexes
      ("1883 05"  -- 39 RULE
      ∷ "  1206 0200 0100"  -- 3c EQ_ID_VAL
      ∷ "2902"  -- 42 END
      ∷ "0a82"  -- 44 SUPPRESS_IF
      ∷ "  3f03 05"  -- 46 RULE_REF
      ∷ "  060e 0300 0000 0100 0100 0000 00 00"  -- 49 CHECKBOX
      ∷ "2902"  -- 57 END
      ∷ "060e 0400 0000 0200 0100 0100 00 00"  -- 59 CHECKBOX
      ∷ "2902 2902"  -- 67 69 END
      ∷ []));
  image = codes "HVS1" ++ hex "0100 0100 0200 0001";
  said = asks "why 1" ∷ tells "DENIED suppressif at 00000044"
      ∷ asks "set 1 0" ∷ tells "DENIED suppressif at 00000044"
      ∷ asks "set 2 0" ∷ tells "OK"
      ∷ asks "why 1" ∷ tells "OK"
      ∷ asks "set 1 0" ∷ tells "OK"
      ∷ [];
  left = codes "HVS2" ++ hex "22222222222222222222222222222222 0100 0100 0200 0001";
}

guard_by_a_rule-holds : Holds guard_by_a_rule
unfolding computing
guard_by_a_rule-holds = record {
  stores = (1, hex "0001") ∷ [];
  opened = record { sound = refl; spelled = record { form = inr refl; laid = refl } };
  answers = refl;
  ended = refl;
  image = refl;
}

abbrev pub rule_of_another_number : Case
rule_of_another_number = record usual {
  list = forms_list (opening 2 ++ hexes
      ("1883 05"  -- 39 RULE
      ∷ "  1206 0200 0100"  -- 3c EQ_ID_VAL
      ∷ "2902"  -- 42 END
      ∷ "0a82"  -- 44 SUPPRESS_IF
      ∷ "  3f03 06"  -- 46 RULE_REF
      ∷ "  060e 0300 0000 0100 0100 0000 00 00"  -- 49 CHECKBOX
      ∷ "2902"  -- 57 END
      ∷ "060e 0400 0000 0200 0100 0100 00 00"  -- 59 CHECKBOX
      ∷ "2902 2902"  -- 67 69 END
      ∷ []));
  image = codes "HVS1" ++ hex "0100 0100 0200 0001";
  said = asks "why 1" ∷ tells "OK"
      ∷ asks "set 1 0" ∷ tells "OK"
      ∷ [];
  left = codes "HVS2" ++ hex "22222222222222222222222222222222 0100 0100 0200 0001";
}

rule_of_another_number-holds : Holds rule_of_another_number
unfolding computing
rule_of_another_number-holds = record {
  stores = (1, hex "0001") ∷ [];
  opened = record { sound = refl; spelled = record { form = inr refl; laid = refl } };
  answers = refl;
  ended = refl;
  image = refl;
}

abbrev pub rule_behind_its_reference : Case
rule_behind_its_reference = record usual {
  list = forms_list (opening 2 ++ hexes
      ("0a82"  -- 39 SUPPRESS_IF
      ∷ "  3f03 05"  -- 3b RULE_REF
      ∷ "  060e 0300 0000 0100 0100 0000 00 00"  -- 3e CHECKBOX
      ∷ "2902"  -- 4c END
      ∷ "060e 0400 0000 0200 0100 0100 00 00"  -- 4e CHECKBOX
      ∷ "1883 05"  -- 5c RULE
      ∷ "  1206 0200 0100"  -- 5f EQ_ID_VAL
      ∷ "2902 2902 2902"  -- 65 67 69 END
      ∷ []));
  image = codes "HVS1" ++ hex "0100 0100 0200 0001";
  said = asks "why 1" ∷ tells "OK"
      ∷ asks "set 1 0" ∷ tells "OK"
      ∷ [];
  left = codes "HVS2" ++ hex "22222222222222222222222222222222 0100 0100 0200 0001";
}

rule_behind_its_reference-holds : Holds rule_behind_its_reference
unfolding computing
rule_behind_its_reference-holds = record {
  stores = (1, hex "0001") ∷ [];
  opened = record { sound = refl; spelled = record { form = inr refl; laid = refl } };
  answers = refl;
  ended = refl;
  image = refl;
}

abbrev pub rule_that_names_itself : Case
rule_that_names_itself = record usual {
  list = forms_list (opening 2 ++ hexes
      ("1883 05"  -- 39 RULE
      ∷ "  3f03 05"  -- 3c RULE_REF
      ∷ "2902"  -- 3f END
      ∷ "0a82"  -- 41 SUPPRESS_IF
      ∷ "  3f03 05"  -- 43 RULE_REF
      ∷ "  060e 0300 0000 0100 0100 0000 00 00"  -- 46 CHECKBOX
      ∷ "2902"  -- 54 END
      ∷ "060e 0400 0000 0200 0100 0100 00 00"  -- 56 CHECKBOX
      ∷ "2902 2902"  -- 64 66 END
      ∷ []));
  image = codes "HVS1" ++ hex "0100 0100 0200 0001";
  said = asks "why 1" ∷ tells "OK"
      ∷ asks "set 1 0" ∷ tells "OK"
      ∷ [];
  left = codes "HVS2" ++ hex "22222222222222222222222222222222 0100 0100 0200 0001";
}

rule_that_names_itself-holds : Holds rule_that_names_itself
unfolding computing
rule_that_names_itself-holds = record {
  stores = (1, hex "0001") ∷ [];
  opened = record { sound = refl; spelled = record { form = inr refl; laid = refl } };
  answers = refl;
  ended = refl;
  image = refl;
}

abbrev pub last_rule_before_the_reference : Case
last_rule_before_the_reference = record usual {
  list = forms_list (opening 2 ++ hexes
      ("1883 05"  -- 39 RULE
      ∷ "  4602"  -- 3c TRUE
      ∷ "2902"  -- 3e END
      ∷ "1883 05"  -- 40 RULE
      ∷ "  4702"  -- 43 FALSE
      ∷ "2902"  -- 45 END
      ∷ "0a82"  -- 47 SUPPRESS_IF
      ∷ "  3f03 05"  -- 49 RULE_REF
      ∷ "  060e 0300 0000 0100 0100 0000 00 00"  -- 4c CHECKBOX
      ∷ "2902"  -- 5a END
      ∷ "1883 05"  -- 5c RULE
      ∷ "  4602"  -- 5f TRUE
      ∷ "2902 2902 2902"  -- 61 63 65 END
      ∷ []));
  image = codes "HVS1" ++ hex "0100 0100 0200 0000";
  said = asks "set 1 0" ∷ tells "OK"
      ∷ [];
  left = codes "HVS2" ++ hex "22222222222222222222222222222222 0100 0100 0200 0000";
}

last_rule_before_the_reference-holds : Holds last_rule_before_the_reference
unfolding computing
last_rule_before_the_reference-holds = record {
  stores = (1, hex "0000") ∷ [];
  opened = record { sound = refl; spelled = record { form = inr refl; laid = refl } };
  answers = refl;
  ended = refl;
  image = refl;
}

abbrev pub rule_of_another_form : Case
rule_of_another_form = record usual {
  list = forms_list (opening 2 ++ hexes
      ("1883 05"  -- 39 RULE
      ∷ "  4602"  -- 3c TRUE
      ∷ "2902 2902"  -- 3e 40 END
      ∷ "0186 0200 0200"  -- 42 FORM
      ∷ "  0a82"  -- 48 SUPPRESS_IF
      ∷ "    3f03 05"  -- 4a RULE_REF
      ∷ "    060e 0300 0000 0100 0100 0000 00 00"  -- 4d CHECKBOX
      ∷ "  2902 2902 2902"  -- 5b 5d 5f END
      ∷ []));
  image = codes "HVS1" ++ hex "0100 0100 0200 0000";
  said = asks "set 1 0" ∷ tells "OK"
      ∷ [];
  left = codes "HVS2" ++ hex "22222222222222222222222222222222 0100 0100 0200 0000";
}

rule_of_another_form-holds : Holds rule_of_another_form
unfolding computing
rule_of_another_form-holds = record {
  stores = (1, hex "0000") ∷ [];
  opened = record { sound = refl; spelled = record { form = inr refl; laid = refl } };
  answers = refl;
  ended = refl;
  image = refl;
}

abbrev pub rules_of_the_least_and_the_greatest_id : Case
rules_of_the_least_and_the_greatest_id = record usual {
  list = forms_list (opening 2 ++ hexes
      ("1883 00"  -- 39 RULE
      ∷ "  1206 0200 0100"  -- 3c EQ_ID_VAL
      ∷ "2902"  -- 42 END
      ∷ "1883 ff"  -- 44 RULE
      ∷ "  1206 0200 0000"  -- 47 EQ_ID_VAL
      ∷ "2902"  -- 4d END
      ∷ "0a82"  -- 4f SUPPRESS_IF
      ∷ "  3f03 00"  -- 51 RULE_REF
      ∷ "  060e 0300 0000 0100 0100 0000 00 00"  -- 54 CHECKBOX
      ∷ "2902"  -- 62 END
      ∷ "0a82"  -- 64 SUPPRESS_IF
      ∷ "  3f03 ff"  -- 66 RULE_REF
      ∷ "  060e 0500 0000 0300 0100 0000 00 00"  -- 69 CHECKBOX
      ∷ "2902"  -- 77 END
      ∷ "060e 0400 0000 0200 0100 0100 00 00"  -- 79 CHECKBOX
      ∷ "2902 2902"  -- 87 89 END
      ∷ []));
  image = codes "HVS1" ++ hex "0100 0100 0200 0000";
  said = asks "why 1" ∷ tells "OK"
      ∷ asks "why 3" ∷ tells "DENIED suppressif at 00000064"
      ∷ asks "set 2 1" ∷ tells "OK"
      ∷ asks "why 1" ∷ tells "DENIED suppressif at 0000004f"
      ∷ asks "why 3" ∷ tells "OK"
      ∷ [];
  left = codes "HVS2" ++ hex "22222222222222222222222222222222 0100 0100 0200 0000";
}

rules_of_the_least_and_the_greatest_id-holds : Holds rules_of_the_least_and_the_greatest_id
unfolding computing
rules_of_the_least_and_the_greatest_id-holds = record {
  stores = (1, hex "0000") ∷ [];
  opened = record { sound = refl; spelled = record { form = inr refl; laid = refl } };
  answers = refl;
  ended = refl;
  image = refl;
}

abbrev pub rules_of_depth_16 : Case
rules_of_depth_16 = record usual {
  list = forms_list (opening 2 ++ hexes
      ("1883 01"  -- 39 RULE
      ∷ "  4602"  -- 3c TRUE
      ∷ [])
      ++ times 15 (hexes
      ("2902"  -- 3e END
      ∷ "1883 01"  -- 40 RULE
      ∷ "3f03 01"  -- 43 RULE_REF
      ∷ []))
      ++ hexes
      ("2902"  -- b6 END
      ∷ "060e 0300 0000 0100 0100 0000 00 00"  -- b8 CHECKBOX
      ∷ "2902 2902"  -- c6 c8 END
      ∷ []));
  image = codes "HVS1" ++ hex "0100 0100 0200 0000";
  said = asks "page" ∷ tells "FORM 1 #2" ∷ tells "  1 *     1 #3                       [ ]"
      ∷ [];
  left = codes "HVS2" ++ hex "22222222222222222222222222222222 0100 0100 0200 0000";
}

rules_of_depth_16-holds : Holds rules_of_depth_16
unfolding computing
rules_of_depth_16-holds = record {
  stores = (1, hex "0000") ∷ [];
  opened = record { sound = refl; spelled = record { form = inr refl; laid = refl } };
  answers = refl;
  ended = refl;
  image = refl;
}

abbrev pub rules_of_4093_operators : Case
rules_of_4093_operators = record usual {
  list = forms_list (opening 2 ++ hexes
      ("1883 01"  -- 39 RULE
      ∷ "  4602"  -- 3c TRUE
      ∷ "2902"  -- 3e END
      ∷ "1883 01"  -- 40 RULE
      ∷ "  3f83 01"  -- 43 RULE_REF
      ∷ "    3f03 01"  -- 46 RULE_REF
      ∷ "    1602"  -- 49 OR
      ∷ "  2902 2902"  -- 4b 4d END
      ∷ "1883 01"  -- 4f RULE
      ∷ "  3f83 01"  -- 52 RULE_REF
      ∷ "    3f03 01"  -- 55 RULE_REF
      ∷ "    1602"  -- 58 OR
      ∷ "  2902 2902"  -- 5a 5c END
      ∷ "1883 01"  -- 5e RULE
      ∷ "  3f83 01"  -- 61 RULE_REF
      ∷ "    3f03 01"  -- 64 RULE_REF
      ∷ "    1602"  -- 67 OR
      ∷ "  2902 2902"  -- 69 6b END
      ∷ "1883 01"  -- 6d RULE
      ∷ "  3f83 01"  -- 70 RULE_REF
      ∷ "    3f03 01"  -- 73 RULE_REF
      ∷ "    1602"  -- 76 OR
      ∷ "  2902 2902"  -- 78 7a END
      ∷ "1883 01"  -- 7c RULE
      ∷ "  3f83 01"  -- 7f RULE_REF
      ∷ "    3f03 01"  -- 82 RULE_REF
      ∷ "    1602"  -- 85 OR
      ∷ "  2902 2902"  -- 87 89 END
      ∷ "1883 01"  -- 8b RULE
      ∷ "  3f83 01"  -- 8e RULE_REF
      ∷ "    3f03 01"  -- 91 RULE_REF
      ∷ "    1602"  -- 94 OR
      ∷ "  2902 2902"  -- 96 98 END
      ∷ "1883 01"  -- 9a RULE
      ∷ "  3f83 01"  -- 9d RULE_REF
      ∷ "    3f03 01"  -- a0 RULE_REF
      ∷ "    1602"  -- a3 OR
      ∷ "  2902 2902"  -- a5 a7 END
      ∷ "1883 01"  -- a9 RULE
      ∷ "  3f83 01"  -- ac RULE_REF
      ∷ "    3f03 01"  -- af RULE_REF
      ∷ "    1602"  -- b2 OR
      ∷ "  2902 2902"  -- b4 b6 END
      ∷ "1883 01"  -- b8 RULE
      ∷ "  3f83 01"  -- bb RULE_REF
      ∷ "    3f03 01"  -- be RULE_REF
      ∷ "    1602"  -- c1 OR
      ∷ "  2902 2902"  -- c3 c5 END
      ∷ "1883 01"  -- c7 RULE
      ∷ "  3f83 01"  -- ca RULE_REF
      ∷ "    3f03 01"  -- cd RULE_REF
      ∷ "    1602"  -- d0 OR
      ∷ "  2902 2902"  -- d2 d4 END
      ∷ "060e 0300 0000 0100 0100 0000 00 00"  -- d6 CHECKBOX
      ∷ "2902 2902"  -- e4 e6 END
      ∷ []));
  image = codes "HVS1" ++ hex "0100 0100 0200 0000";
  said = asks "page" ∷ tells "FORM 1 #2" ∷ tells "  1 *     1 #3                       [ ]"
      ∷ [];
  left = codes "HVS2" ++ hex "22222222222222222222222222222222 0100 0100 0200 0000";
}

rules_of_4093_operators-holds : Holds rules_of_4093_operators
unfolding computing
rules_of_4093_operators-holds = record {
  stores = (1, hex "0000") ∷ [];
  opened = record { sound = refl; spelled = record { form = inr refl; laid = refl } };
  answers = refl;
  ended = refl;
  image = refl;
}

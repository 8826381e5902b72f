-- Worked cases of scripts and commands, as tests/rule_cases writes them.
use Rattle.std.proofs.Common.{refl, inr}
use Rattle.std.specs.Prelude.{[], ◌∷◌, ◌++◌, codes}
use Rattle.browser_rules.proofs.CaseWords.{hex, hexes, times, packed, package_list, forms_list, opening, asks, tells, sends, Case, usual, Holds}
use Rattle.browser_rules.proofs.cases.Computing.{computing}

-- ---- lines

abbrev pub carriage_returns_are_dropped : Case
carriage_returns_are_dropped = record usual {
  list = forms_list (opening 2 ++ hexes
      ("060e 0300 0000 0100 0100 0000 00 00"  -- 39 CHECKBOX
      ∷ "2902 2902"  -- 47 49 END
      ∷ []));
  image = codes "HVS1" ++ hex "0100 0100 0200 0000";
  said = asks "set 1 1\r" ∷ tells "OK"
      ∷ asks "\r"
      ∷ asks ""
      ∷ sends (codes "submit" ++ hex "0d") ∷ tells "OK 1" ∷ tells "CHANGED 1"
      ∷ [];
  left = codes "HVS2" ++ hex "22222222222222222222222222222222 0100 0100 0200 0100";
}

carriage_returns_are_dropped-holds : Holds carriage_returns_are_dropped
unfolding computing
carriage_returns_are_dropped-holds = record {
  stores = (1, hex "0000") ∷ [];
  opened = record { sound = refl; spelled = record { form = inr refl; laid = refl } };
  answers = refl;
  ended = refl;
  image = refl;
}

abbrev pub last_line_needs_no_line_feed : Case
last_line_needs_no_line_feed = record usual {
  list = forms_list (opening 2 ++ hexes
      ("060e 0300 0000 0100 0100 0000 00 00"  -- 39 CHECKBOX
      ∷ "2902 2902"  -- 47 49 END
      ∷ []));
  image = codes "HVS1" ++ hex "0100 0100 0200 0000";
  said = asks "set 1 1" ∷ tells "OK"
      ∷ sends (codes "submit") ∷ tells "OK 1" ∷ tells "CHANGED 1"
      ∷ [];
  left = codes "HVS2" ++ hex "22222222222222222222222222222222 0100 0100 0200 0100";
}

last_line_needs_no_line_feed-holds : Holds last_line_needs_no_line_feed
unfolding computing
last_line_needs_no_line_feed-holds = record {
  stores = (1, hex "0000") ∷ [];
  opened = record { sound = refl; spelled = record { form = inr refl; laid = refl } };
  answers = refl;
  ended = refl;
  image = refl;
}

abbrev pub line_of_the_greatest_length : Case
line_of_the_greatest_length = record usual {
  list = forms_list (opening 2 ++ hexes
      ("060e 0300 0000 0100 0100 0000 00 00"  -- 39 CHECKBOX
      ∷ "2902 2902"  -- 47 49 END
      ∷ []));
  image = codes "HVS1" ++ hex "0100 0100 0200 0000";
  said = sends (times 4096 (codes "x") ++ codes "\n") ∷ tells "REFUSED 70 BadCommand"
      ∷ sends (times 4095 (codes "x") ++ hex "0d" ++ codes "\n") ∷ tells "REFUSED 70 BadCommand"
      ∷ [];
  left = codes "HVS2" ++ hex "22222222222222222222222222222222 0100 0100 0200 0000";
}

line_of_the_greatest_length-holds : Holds line_of_the_greatest_length
unfolding computing
line_of_the_greatest_length-holds = record {
  stores = (1, hex "0000") ∷ [];
  opened = record { sound = refl; spelled = record { form = inr refl; laid = refl } };
  answers = refl;
  ended = refl;
  image = refl;
}

abbrev pub lines_that_change_nothing : Case
lines_that_change_nothing = record usual {
  list = forms_list (opening 2 ++ hexes
      ("060e 0300 0000 0100 0100 0000 00 00"  -- 39 CHECKBOX
      ∷ "2902 2902"  -- 47 49 END
      ∷ []));
  image = codes "HVS1" ++ hex "0100 0100 0200 0000";
  said = asks "set 9 1" ∷ tells "DENIED noquestion at 00000000"
      ∷ asks "set 1 2" ∷ tells "DENIED range at 00000039"
      ∷ asks "text 1 x" ∷ tells "DENIED kind at 00000039"
      ∷ asks "go 1" ∷ tells "DENIED notref at 00000039"
      ∷ asks "set  1 1" ∷ tells "REFUSED 70 BadCommand"
      ∷ sends (times 4097 (codes "x") ++ codes "\n") ∷ tells "REFUSED 71 LineTooLong"
      ∷ [];
  left = codes "HVS2" ++ hex "22222222222222222222222222222222 0100 0100 0200 0000";
}

lines_that_change_nothing-holds : Holds lines_that_change_nothing
unfolding computing
lines_that_change_nothing-holds = record {
  stores = (1, hex "0000") ∷ [];
  opened = record { sound = refl; spelled = record { form = inr refl; laid = refl } };
  answers = refl;
  ended = refl;
  image = refl;
}

abbrev pub text_in_a_line_of_the_greatest_length : Case
text_in_a_line_of_the_greatest_length = record usual {
  list = forms_list (opening 2 ++ hexes
      ("060e 0300 0000 0100 0100 0000 00 00"  -- 39 CHECKBOX
      ∷ "2902 2902"  -- 47 49 END
      ∷ []));
  image = codes "HVS1" ++ hex "0100 0100 0200 0000";
  said = sends (codes "text 1 " ++ times 4089 (codes "x") ++ codes "\n") ∷ tells "DENIED kind at 00000039"
      ∷ sends (codes "text 1 " ++ times 4089 (codes "x") ++ hex "0d" ++ codes "\n") ∷ tells "REFUSED 71 LineTooLong"
      ∷ sends (codes "text 1 " ++ times 4088 (codes "x") ++ hex "0d" ++ codes "\n") ∷ tells "DENIED kind at 00000039"
      ∷ sends (codes "text 1 " ++ times 4090 (codes "x") ++ codes "\n") ∷ tells "REFUSED 71 LineTooLong"
      ∷ asks "set 1 1" ∷ tells "OK"
      ∷ [];
  left = codes "HVS2" ++ hex "22222222222222222222222222222222 0100 0100 0200 0000";
}

text_in_a_line_of_the_greatest_length-holds : Holds text_in_a_line_of_the_greatest_length
unfolding computing
text_in_a_line_of_the_greatest_length-holds = record {
  stores = (1, hex "0000") ∷ [];
  opened = record { sound = refl; spelled = record { form = inr refl; laid = refl } };
  answers = refl;
  ended = refl;
  image = refl;
}

-- ---- commands

abbrev pub lines_that_are_no_commands : Case
lines_that_are_no_commands = record usual {
  list = forms_list (opening 2 ++ hexes
      ("060e 0300 0000 0100 0100 0000 00 00"  -- 39 CHECKBOX
      ∷ "2902 2902"  -- 47 49 END
      ∷ []));
  image = codes "HVS1" ++ hex "0100 0100 0200 0000";
  said = asks "set  1 1" ∷ tells "REFUSED 70 BadCommand"
      ∷ asks "set 1" ∷ tells "REFUSED 70 BadCommand"
      ∷ asks "set 1 1 " ∷ tells "REFUSED 70 BadCommand"
      ∷ asks " page" ∷ tells "REFUSED 70 BadCommand"
      ∷ asks "Page" ∷ tells "REFUSED 70 BadCommand"
      ∷ asks "set 000001 1" ∷ tells "REFUSED 70 BadCommand"
      ∷ asks "set 65536 1" ∷ tells "REFUSED 70 BadCommand"
      ∷ asks "set 1 +1" ∷ tells "REFUSED 70 BadCommand"
      ∷ asks "set 1 -" ∷ tells "REFUSED 70 BadCommand"
      ∷ asks "set 1 0x" ∷ tells "REFUSED 70 BadCommand"
      ∷ asks "set 1 0X1" ∷ tells "REFUSED 70 BadCommand"
      ∷ asks "set 1 18446744073709551616" ∷ tells "REFUSED 70 BadCommand"
      ∷ asks "set 1 000000000000000000001" ∷ tells "REFUSED 70 BadCommand"
      ∷ asks "page\r\r" ∷ tells "REFUSED 70 BadCommand"
      ∷ sends (hex "ff" ++ hex "00" ++ codes "\n") ∷ tells "REFUSED 70 BadCommand"
      ∷ [];
  left = codes "HVS2" ++ hex "22222222222222222222222222222222 0100 0100 0200 0000";
}

lines_that_are_no_commands-holds : Holds lines_that_are_no_commands
unfolding computing
lines_that_are_no_commands-holds = record {
  stores = (1, hex "0000") ∷ [];
  opened = record { sound = refl; spelled = record { form = inr refl; laid = refl } };
  answers = refl;
  ended = refl;
  image = refl;
}

abbrev pub forms_of_these_lines : Case
forms_of_these_lines = record usual {
  list = forms_list (opening 2 ++ hexes
      ("060e 0300 0000 0100 0100 0000 00 00"  -- 39 CHECKBOX
      ∷ "2902 2902"  -- 47 49 END
      ∷ []));
  image = codes "HVS1" ++ hex "0100 0100 0200 0000";
  said = asks "go" ∷ tells "REFUSED 70 BadCommand"
      ∷ asks "go " ∷ tells "REFUSED 70 BadCommand"
      ∷ asks "go 1 " ∷ tells "REFUSED 70 BadCommand"
      ∷ asks "go  1" ∷ tells "REFUSED 70 BadCommand"
      ∷ asks "go x" ∷ tells "REFUSED 70 BadCommand"
      ∷ asks "go 65536" ∷ tells "REFUSED 70 BadCommand"
      ∷ asks "go 000001" ∷ tells "REFUSED 70 BadCommand"
      ∷ asks "back " ∷ tells "REFUSED 70 BadCommand"
      ∷ asks "back 1" ∷ tells "REFUSED 70 BadCommand"
      ∷ asks "press" ∷ tells "REFUSED 70 BadCommand"
      ∷ asks "press " ∷ tells "REFUSED 70 BadCommand"
      ∷ asks "press 1000000000" ∷ tells "REFUSED 70 BadCommand"
      ∷ asks "press 0000000001" ∷ tells "REFUSED 70 BadCommand"
      ∷ asks "press -1" ∷ tells "REFUSED 70 BadCommand"
      ∷ asks "defaults" ∷ tells "REFUSED 70 BadCommand"
      ∷ asks "defaults " ∷ tells "REFUSED 70 BadCommand"
      ∷ asks "defaults 65536" ∷ tells "REFUSED 70 BadCommand"
      ∷ asks "defaults 0x1" ∷ tells "REFUSED 70 BadCommand"
      ∷ asks "Go 1" ∷ tells "REFUSED 70 BadCommand"
      ∷ asks "goto 1" ∷ tells "REFUSED 70 BadCommand"
      ∷ [];
  left = codes "HVS2" ++ hex "22222222222222222222222222222222 0100 0100 0200 0000";
}

forms_of_these_lines-holds : Holds forms_of_these_lines
unfolding computing
forms_of_these_lines-holds = record {
  stores = (1, hex "0000") ∷ [];
  opened = record { sound = refl; spelled = record { form = inr refl; laid = refl } };
  answers = refl;
  ended = refl;
  image = refl;
}

abbrev pub lines_that_are_no_lists : Case
lines_that_are_no_lists = record usual {
  list = forms_list (opening 2 ++ hexes
      ("238f 0300 0000 0100 0100 0000 00 02 00"  -- 39 ORDERED_LIST
      ∷ "  0907 0500 00 00 01"  -- 48 ONE_OF_OPTION
      ∷ "2902 2902 2902"  -- 4f 51 53 END
      ∷ []));
  image = codes "HVS1" ++ hex "0100 0100 0200 0000";
  said = asks "order" ∷ tells "REFUSED 70 BadCommand"
      ∷ asks "order " ∷ tells "REFUSED 70 BadCommand"
      ∷ asks "order 1 " ∷ tells "REFUSED 70 BadCommand"
      ∷ asks "order 1  1" ∷ tells "REFUSED 70 BadCommand"
      ∷ asks "order 1 1," ∷ tells "REFUSED 70 BadCommand"
      ∷ asks "order 1 ,1" ∷ tells "REFUSED 70 BadCommand"
      ∷ asks "order 1 1,,1" ∷ tells "REFUSED 70 BadCommand"
      ∷ asks "order 1 1, 1" ∷ tells "REFUSED 70 BadCommand"
      ∷ asks "order 1 0x1" ∷ tells "REFUSED 70 BadCommand"
      ∷ asks "order 1 -1" ∷ tells "REFUSED 70 BadCommand"
      ∷ asks "order 1 1 " ∷ tells "REFUSED 70 BadCommand"
      ∷ asks "order 1 18446744073709551616" ∷ tells "REFUSED 70 BadCommand"
      ∷ asks "order 1 000000000000000000001" ∷ tells "REFUSED 70 BadCommand"
      ∷ asks "order 65536 1" ∷ tells "REFUSED 70 BadCommand"
      ∷ asks "Order 1 1" ∷ tells "REFUSED 70 BadCommand"
      ∷ asks "order 1 00000000000000000001" ∷ tells "OK"
      ∷ asks "page" ∷ tells "FORM 1 #2" ∷ tells "  1 *     1 #3                       [#5]"
      ∷ [];
  left = codes "HVS2" ++ hex "22222222222222222222222222222222 0100 0100 0200 0000";
}

lines_that_are_no_lists-holds : Holds lines_that_are_no_lists
unfolding computing
lines_that_are_no_lists-holds = record {
  stores = (1, hex "0000") ∷ [];
  opened = record { sound = refl; spelled = record { form = inr refl; laid = refl } };
  answers = refl;
  ended = refl;
  image = refl;
}

abbrev pub lines_that_are_no_texts : Case
lines_that_are_no_texts = record usual {
  list = forms_list (opening 2 ++ hexes
      ("1c10 0300 0000 0100 0100 0000 00 00 01 00"  -- 39 STRING
      ∷ "2902 2902"  -- 49 4b END
      ∷ []));
  image = codes "HVS1" ++ hex "0100 0100 0200 0000";
  said = asks "text" ∷ tells "REFUSED 70 BadCommand"
      ∷ asks "text " ∷ tells "REFUSED 70 BadCommand"
      ∷ asks "text  1 x" ∷ tells "REFUSED 70 BadCommand"
      ∷ asks "text 1\tx" ∷ tells "REFUSED 70 BadCommand"
      ∷ asks "text x y" ∷ tells "REFUSED 70 BadCommand"
      ∷ asks "text 65536 x" ∷ tells "REFUSED 70 BadCommand"
      ∷ asks "Text 1 x" ∷ tells "REFUSED 70 BadCommand"
      ∷ asks " text 1 x" ∷ tells "REFUSED 70 BadCommand"
      ∷ asks "page" ∷ tells "FORM 1 #2" ∷ tells "  1 *     1 #3                       []"
      ∷ [];
  left = codes "HVS2" ++ hex "22222222222222222222222222222222 0100 0100 0200 0000";
}

lines_that_are_no_texts-holds : Holds lines_that_are_no_texts
unfolding computing
lines_that_are_no_texts-holds = record {
  stores = (1, hex "0000") ∷ [];
  opened = record { sound = refl; spelled = record { form = inr refl; laid = refl } };
  answers = refl;
  ended = refl;
  image = refl;
}

abbrev pub lines_that_are_no_languages : Case
lines_that_are_no_languages = record usual {
  list = package_list (packed 4 (hexes
      ("2e000000 31000000"  -- where the texts begin
      ∷ "0000000000000000000000000000000000000000000000000000000000000000"
      ∷ "0100"
      ∷ "667200"  -- fr
      ∷ "160300000046003200000046003300000000"
      ∷ []))
      ++ packed 4 (hexes
      ("2e000000 34000000"  -- where the texts begin
      ∷ "0000000000000000000000000000000000000000000000000000000000000000"
      ∷ "0100"
      ∷ "656e2d555300"  -- en-US
      ∷ "160200000045003200000000"
      ∷ []))
      ++ packed 2 (opening 2 ++ hexes
      ("060e 0300 0000 0100 0100 0000 00 00"  -- 39 CHECKBOX
      ∷ "2902 2902"  -- 47 49 END
      ∷ [])));
  image = codes "HVS1" ++ hex "0100 0100 0200 0000";
  said = asks "lang" ∷ tells "REFUSED 70 BadCommand"
      ∷ asks "lang " ∷ tells "REFUSED 70 BadCommand"
      ∷ asks "lang en US" ∷ tells "REFUSED 70 BadCommand"
      ∷ asks "lang en_US" ∷ tells "REFUSED 70 BadCommand"
      ∷ sends (codes "lang " ++ times 64 (codes "x") ++ codes "\n") ∷ tells "REFUSED 70 BadCommand"
      ∷ asks "lang é" ∷ tells "REFUSED 70 BadCommand"
      ∷ asks "Lang en" ∷ tells "REFUSED 70 BadCommand"
      ∷ asks "lang xxxxxxxxxxxxxxxxxxxxxxxxxxxxxxxxxxxxxxxxxxxxxxxxxxxxxxxxxxxxxxx" ∷ tells "OK"
      ∷ asks "lang -" ∷ tells "OK"
      ∷ [];
  left = codes "HVS2" ++ hex "22222222222222222222222222222222 0100 0100 0200 0000";
}

lines_that_are_no_languages-holds : Holds lines_that_are_no_languages
unfolding computing
lines_that_are_no_languages-holds = record {
  stores = (1, hex "0000") ∷ [];
  opened = record { sound = refl; spelled = record { form = inr refl; laid = refl } };
  answers = refl;
  ended = refl;
  image = refl;
}

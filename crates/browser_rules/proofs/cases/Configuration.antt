-- Worked cases of configuration texts, as tests/rule_cases writes them.
use Rattle.std.proofs.Common.{refl, inr}
use Rattle.std.specs.Prelude.{[], ◌∷◌, ◌++◌, codes}
use Rattle.browser_rules.proofs.CaseWords.{hex, hexes, packed, package_list, forms_list, opening, asks, tells, sends, Case, usual, Holds}
use Rattle.browser_rules.proofs.cases.Computing.{computing}

-- ---- reading

abbrev pub texts_without_a_header : Case
texts_without_a_header = record usual {
  list = forms_list (opening 2 ++ hexes
      ("060e 0300 0000 0100 0100 0000 00 00"  -- 39 CHECKBOX
      ∷ "2902 2902"  -- 47 49 END
      ∷ []));
  image = codes "HVS1" ++ hex "0100 0100 0200 0102";
  said = asks "extract x" ∷ tells "REFUSED 80 BadHeader"
      ∷ asks "extract =" ∷ tells "REFUSED 80 BadHeader"
      ∷ asks "extract GUID" ∷ tells "REFUSED 80 BadHeader"
      ∷ asks "extract GUID=" ∷ tells "REFUSED 80 BadHeader"
      ∷ asks "extract &@" ∷ tells "REFUSED 80 BadHeader"
      ∷ asks "extract UID=33333333333333333333333333333333&NAME=0056&PATH=" ∷ tells "REFUSED 80 BadHeader"
      ∷ asks "extract GUID=33333333333333333333333333333333&NAME=0056&PATH" ∷ tells "REFUSED 80 BadHeader"
      ∷ asks "extract GUID=33333333333333333333333333333333&NAME=0056" ∷ tells "REFUSED 80 BadHeader"
      ∷ asks "extract @0" ∷ tells "REFUSED 80 BadHeader"
      ∷ asks "extract @000" ∷ tells "REFUSED 80 BadHeader"
      ∷ asks "extract @0g" ∷ tells "REFUSED 80 BadHeader"
      ∷ asks "extract @x" ∷ tells "REFUSED 80 BadHeader"
      ∷ asks "extract @00=" ∷ tells "REFUSED 80 BadHeader"
      ∷ asks "extract guid=33333333333333333333333333333333&name=0056&path=" ∷ tells "REFUSED 80 BadHeader"
      ∷ asks "extract guid=33333333333333333333333333333333&NAME=0056&PATH=" ∷ tells "REFUSED 80 BadHeader"
      ∷ asks "extract GUID=033333333333333333333333333333333&NAME=0056&PATH=" ∷ tells "REFUSED 80 BadHeader"
      ∷ asks "extract GUID=3333333333333333333333333333333&NAME=0056&PATH=" ∷ tells "REFUSED 80 BadHeader"
      ∷ asks "extract GUID=g3333333333333333333333333333333&NAME=0056&PATH=" ∷ tells "REFUSED 80 BadHeader"
      ∷ asks "extract GUID=33333333333333333333333333333333&NAME=056&PATH=" ∷ tells "REFUSED 80 BadHeader"
      ∷ asks "extract GUID=33333333333333333333333333333333&NAME=00056&PATH=" ∷ tells "REFUSED 80 BadHeader"
      ∷ asks "extract GUID=33333333333333333333333333333333&NAME=005g&PATH=" ∷ tells "REFUSED 80 BadHeader"
      ∷ asks "extract GUID=33333333333333333333333333333333&NAME=+056&PATH=" ∷ tells "REFUSED 80 BadHeader"
      ∷ asks "extract GUID=33333333333333333333333333333333&PATH=" ∷ tells "REFUSED 80 BadHeader"
      ∷ asks "extract GUID=33333333333333333333333333333333&NAME=0056PATH=" ∷ tells "REFUSED 80 BadHeader"
      ∷ asks "extract GUID=33333333333333333333333333333333&PATH=&NAME=0056" ∷ tells "REFUSED 80 BadHeader"
      ∷ asks "extract GUID=33333333333333333333333333333333&NAME:0056&PATH=" ∷ tells "REFUSED 80 BadHeader"
      ∷ asks "extract CONFIG" ∷ tells "REFUSED 80 BadHeader"
      ∷ sends (codes "extract " ++ hex "ff" ++ codes "\n") ∷ tells "REFUSED 80 BadHeader"
      ∷ asks "extract \0" ∷ tells "REFUSED 80 BadHeader"
      ∷ sends (codes "extract GUID=33333333333333333333333333333333&NAME=0056&PATH=" ++ hex "ff" ++ codes "\n")
      ∷ tells "REFUSED 80 BadHeader"
      ∷ asks "extract @?OFFSET=0&WIDTH=1" ∷ tells "REFUSED 80 BadHeader"
      ∷ asks "extract @OFFSET=0&WIDTH=1" ∷ tells "REFUSED 80 BadHeader"
      ∷ asks "extract GUID=33&OFFSET=0&WIDTH=1" ∷ tells "REFUSED 80 BadHeader"
      ∷ asks "route x" ∷ tells "REFUSED 80 BadHeader"
      ∷ asks "route =" ∷ tells "REFUSED 80 BadHeader"
      ∷ asks "route GUID" ∷ tells "REFUSED 80 BadHeader"
      ∷ asks "route GUID=" ∷ tells "REFUSED 80 BadHeader"
      ∷ asks "route &@" ∷ tells "REFUSED 80 BadHeader"
      ∷ asks "route UID=33333333333333333333333333333333&NAME=0056&PATH=" ∷ tells "REFUSED 80 BadHeader"
      ∷ asks "route GUID=33333333333333333333333333333333&NAME=0056&PATH" ∷ tells "REFUSED 80 BadHeader"
      ∷ asks "route GUID=33333333333333333333333333333333&NAME=0056" ∷ tells "REFUSED 80 BadHeader"
      ∷ asks "route @0" ∷ tells "REFUSED 80 BadHeader"
      ∷ asks "route @000" ∷ tells "REFUSED 80 BadHeader"
      ∷ asks "route @0g" ∷ tells "REFUSED 80 BadHeader"
      ∷ asks "route @x" ∷ tells "REFUSED 80 BadHeader"
      ∷ asks "route @00=" ∷ tells "REFUSED 80 BadHeader"
      ∷ asks "route guid=33333333333333333333333333333333&name=0056&path=" ∷ tells "REFUSED 80 BadHeader"
      ∷ asks "route guid=33333333333333333333333333333333&NAME=0056&PATH=" ∷ tells "REFUSED 80 BadHeader"
      ∷ asks "route GUID=033333333333333333333333333333333&NAME=0056&PATH=" ∷ tells "REFUSED 80 BadHeader"
      ∷ asks "route GUID=3333333333333333333333333333333&NAME=0056&PATH=" ∷ tells "REFUSED 80 BadHeader"
      ∷ asks "route GUID=g3333333333333333333333333333333&NAME=0056&PATH=" ∷ tells "REFUSED 80 BadHeader"
      ∷ asks "route GUID=33333333333333333333333333333333&NAME=056&PATH=" ∷ tells "REFUSED 80 BadHeader"
      ∷ asks "route GUID=33333333333333333333333333333333&NAME=00056&PATH=" ∷ tells "REFUSED 80 BadHeader"
      ∷ asks "route GUID=33333333333333333333333333333333&NAME=005g&PATH=" ∷ tells "REFUSED 80 BadHeader"
      ∷ asks "route GUID=33333333333333333333333333333333&NAME=+056&PATH=" ∷ tells "REFUSED 80 BadHeader"
      ∷ asks "route GUID=33333333333333333333333333333333&PATH=" ∷ tells "REFUSED 80 BadHeader"
      ∷ asks "route GUID=33333333333333333333333333333333&NAME=0056PATH=" ∷ tells "REFUSED 80 BadHeader"
      ∷ asks "route GUID=33333333333333333333333333333333&PATH=&NAME=0056" ∷ tells "REFUSED 80 BadHeader"
      ∷ asks "route GUID=33333333333333333333333333333333&NAME:0056&PATH=" ∷ tells "REFUSED 80 BadHeader"
      ∷ asks "route CONFIG" ∷ tells "REFUSED 80 BadHeader"
      ∷ sends (codes "route " ++ hex "ff" ++ codes "\n") ∷ tells "REFUSED 80 BadHeader"
      ∷ asks "route \0" ∷ tells "REFUSED 80 BadHeader"
      ∷ sends (codes "route GUID=33333333333333333333333333333333&NAME=0056&PATH=" ++ hex "ff" ++ codes "\n")
      ∷ tells "REFUSED 80 BadHeader"
      ∷ asks "route @?OFFSET=0&WIDTH=1" ∷ tells "REFUSED 80 BadHeader"
      ∷ asks "route @OFFSET=0&WIDTH=1" ∷ tells "REFUSED 80 BadHeader"
      ∷ asks "route GUID=33&OFFSET=0&WIDTH=1" ∷ tells "REFUSED 80 BadHeader"
      ∷ [];
  left = codes "HVS2" ++ hex "22222222222222222222222222222222 0100 0100 0200 0102";
}

texts_without_a_header-holds : Holds texts_without_a_header
unfolding computing
texts_without_a_header-holds = record {
  stores = (1, hex "0102") ∷ [];
  opened = record { sound = refl; spelled = record { form = inr refl; laid = refl } };
  answers = refl;
  ended = refl;
  image = refl;
}

abbrev pub keys_that_are_not_wanted : Case
keys_that_are_not_wanted = record usual {
  list = forms_list (opening 2 ++ hexes
      ("060e 0300 0000 0100 0100 0000 00 00"  -- 39 CHECKBOX
      ∷ "2902 2902"  -- 47 49 END
      ∷ []));
  image = codes "HVS1" ++ hex "0100 0100 0200 0102";
  said = asks "extract @&" ∷ tells "REFUSED 81 BadElement"
      ∷ asks "extract @&&" ∷ tells "REFUSED 81 BadElement"
      ∷ asks "extract @&OFFSET" ∷ tells "REFUSED 81 BadElement"
      ∷ asks "extract @&OFFSET0&WIDTH=1" ∷ tells "REFUSED 81 BadElement"
      ∷ asks "extract @&OFFSETS=0&WIDTH=1" ∷ tells "REFUSED 81 BadElement"
      ∷ asks "extract @&OFFSET=0" ∷ tells "REFUSED 81 BadElement"
      ∷ asks "extract @&OFFSET=0&" ∷ tells "REFUSED 81 BadElement"
      ∷ asks "extract @&OFFSET=0&WIDTH" ∷ tells "REFUSED 81 BadElement"
      ∷ asks "extract @&OFFSET=0&OFFSET=0" ∷ tells "REFUSED 81 BadElement"
      ∷ asks "extract @&WIDTH=1" ∷ tells "REFUSED 81 BadElement"
      ∷ asks "extract @&WIDTH=1&OFFSET=0" ∷ tells "REFUSED 81 BadElement"
      ∷ asks "extract @&offset=0&WIDTH=1" ∷ tells "REFUSED 81 BadElement"
      ∷ asks "extract @&OFFSET=0&width=1" ∷ tells "REFUSED 81 BadElement"
      ∷ asks "extract @&&OFFSET=0&WIDTH=1" ∷ tells "REFUSED 81 BadElement"
      ∷ asks "extract @&OFFSET=0&&WIDTH=1" ∷ tells "REFUSED 81 BadElement"
      ∷ asks "extract @&VALUE=1" ∷ tells "REFUSED 81 BadElement"
      ∷ asks "extract @&ALTCFG=0000" ∷ tells "REFUSED 81 BadElement"
      ∷ asks "extract @&@" ∷ tells "REFUSED 81 BadElement"
      ∷ asks "extract @&OFFSET=0&WIDTH=1&" ∷ tells "REFUSED 81 BadElement"
      ∷ asks "extract @&OFFSET=0&WIDTH=1&OFFSET" ∷ tells "REFUSED 81 BadElement"
      ∷ asks "extract @&OFFSET=0&WIDTH=1&OFFSET=0" ∷ tells "REFUSED 81 BadElement"
      ∷ asks "extract @&OFFSET=0&WIDTH=1&WIDTH=1" ∷ tells "REFUSED 81 BadElement"
      ∷ asks "extract @&OFFSET=0&WIDTH=1&VALUE=1" ∷ tells "REFUSED 81 BadElement"
      ∷ asks "extract @&OFFSET=0&WIDTH=1&ALTCFG=0000" ∷ tells "REFUSED 81 BadElement"
      ∷ asks "extract @&OFFSET=0&WIDTH=1&@" ∷ tells "REFUSED 81 BadElement"
      ∷ asks "route @&" ∷ tells "REFUSED 81 BadElement"
      ∷ asks "route @&&" ∷ tells "REFUSED 81 BadElement"
      ∷ asks "route @&OFFSET" ∷ tells "REFUSED 81 BadElement"
      ∷ asks "route @&OFFSET0&WIDTH=1" ∷ tells "REFUSED 81 BadElement"
      ∷ asks "route @&OFFSETS=0&WIDTH=1" ∷ tells "REFUSED 81 BadElement"
      ∷ asks "route @&OFFSET=0" ∷ tells "REFUSED 81 BadElement"
      ∷ asks "route @&OFFSET=0&" ∷ tells "REFUSED 81 BadElement"
      ∷ asks "route @&OFFSET=0&WIDTH" ∷ tells "REFUSED 81 BadElement"
      ∷ asks "route @&OFFSET=0&OFFSET=0" ∷ tells "REFUSED 81 BadElement"
      ∷ asks "route @&WIDTH=1" ∷ tells "REFUSED 81 BadElement"
      ∷ asks "route @&WIDTH=1&OFFSET=0" ∷ tells "REFUSED 81 BadElement"
      ∷ asks "route @&offset=0&WIDTH=1" ∷ tells "REFUSED 81 BadElement"
      ∷ asks "route @&OFFSET=0&width=1" ∷ tells "REFUSED 81 BadElement"
      ∷ asks "route @&&OFFSET=0&WIDTH=1" ∷ tells "REFUSED 81 BadElement"
      ∷ asks "route @&OFFSET=0&&WIDTH=1" ∷ tells "REFUSED 81 BadElement"
      ∷ asks "route @&VALUE=1" ∷ tells "REFUSED 81 BadElement"
      ∷ asks "route @&ALTCFG=0000" ∷ tells "REFUSED 81 BadElement"
      ∷ asks "route @&@" ∷ tells "REFUSED 81 BadElement"
      ∷ asks "route @&OFFSET=0&WIDTH=1" ∷ tells "REFUSED 81 BadElement"
      ∷ asks "route @&OFFSET=0&WIDTH=1&" ∷ tells "REFUSED 81 BadElement"
      ∷ asks "route @&OFFSET=0&WIDTH=1&VALUE" ∷ tells "REFUSED 81 BadElement"
      ∷ asks "route @&OFFSET=0&WIDTH=1&value=1" ∷ tells "REFUSED 81 BadElement"
      ∷ asks "route @&OFFSET=0&WIDTH=1&OFFSET=0" ∷ tells "REFUSED 81 BadElement"
      ∷ asks "route @&OFFSET=0&WIDTH=1&VALUE=1&" ∷ tells "REFUSED 81 BadElement"
      ∷ asks "route @&OFFSET=0&WIDTH=1&VALUE=1&VALUE=1" ∷ tells "REFUSED 81 BadElement"
      ∷ asks "route @&OFFSET=0&WIDTH=1&VALUE=1&OFFSET=0&WIDTH=1" ∷ tells "REFUSED 81 BadElement"
      ∷ asks "route @&OFFSET=0&WIDTH=1&VALUE=1&ALTCFG=0000" ∷ tells "REFUSED 81 BadElement"
      ∷ asks "route @&OFFSET=0&WIDTH=1&VALUE=1&@" ∷ tells "REFUSED 81 BadElement"
      ∷ asks "extract @&OFFSET=0&WIDTH=1" ∷ tells "CONFIG @&OFFSET=0000&WIDTH=0001&VALUE=01"
      ∷ [];
  left = codes "HVS2" ++ hex "22222222222222222222222222222222 0100 0100 0200 0102";
}

keys_that_are_not_wanted-holds : Holds keys_that_are_not_wanted
unfolding computing
keys_that_are_not_wanted-holds = record {
  stores = (1, hex "0102") ∷ [];
  opened = record { sound = refl; spelled = record { form = inr refl; laid = refl } };
  answers = refl;
  ended = refl;
  image = refl;
}

abbrev pub numbers_that_are_refused : Case
numbers_that_are_refused = record usual {
  list = forms_list (opening 2 ++ hexes
      ("060e 0300 0000 0100 0100 0000 00 00"  -- 39 CHECKBOX
      ∷ "2902 2902"  -- 47 49 END
      ∷ []));
  image = codes "HVS1" ++ hex "0100 0100 0200 0102";
  said = asks "extract @&OFFSET=" ∷ tells "REFUSED 82 BadNumber"
      ∷ asks "extract @&OFFSET=&WIDTH=1" ∷ tells "REFUSED 82 BadNumber"
      ∷ asks "extract @&OFFSET=g&WIDTH=1" ∷ tells "REFUSED 82 BadNumber"
      ∷ asks "extract @&OFFSET=0x1&WIDTH=1" ∷ tells "REFUSED 82 BadNumber"
      ∷ asks "extract @&OFFSET=-1&WIDTH=1" ∷ tells "REFUSED 82 BadNumber"
      ∷ asks "extract @&OFFSET=0=&WIDTH=1" ∷ tells "REFUSED 82 BadNumber"
      ∷ asks "extract @&OFFSET=10000&WIDTH=1" ∷ tells "REFUSED 82 BadNumber"
      ∷ asks "extract @&OFFSET=ffffffff&WIDTH=1" ∷ tells "REFUSED 82 BadNumber"
      ∷ asks "extract @&OFFSET=000000001&WIDTH=1" ∷ tells "REFUSED 82 BadNumber"
      ∷ asks "extract @&OFFSET=0&WIDTH=" ∷ tells "REFUSED 82 BadNumber"
      ∷ asks "extract @&OFFSET=0&WIDTH=0" ∷ tells "REFUSED 82 BadNumber"
      ∷ asks "extract @&OFFSET=0&WIDTH=00000000" ∷ tells "REFUSED 82 BadNumber"
      ∷ asks "extract @&OFFSET=0&WIDTH=10000" ∷ tells "REFUSED 82 BadNumber"
      ∷ asks "extract @&OFFSET=0&WIDTH=000000001" ∷ tells "REFUSED 82 BadNumber"
      ∷ asks "extract @&OFFSET=0&WIDTH=0000000000000001" ∷ tells "REFUSED 82 BadNumber"
      ∷ asks "extract @&OFFSET=0&WIDTH=1g" ∷ tells "REFUSED 82 BadNumber"
      ∷ asks "route @&OFFSET=" ∷ tells "REFUSED 82 BadNumber"
      ∷ asks "route @&OFFSET=&WIDTH=1" ∷ tells "REFUSED 82 BadNumber"
      ∷ asks "route @&OFFSET=g&WIDTH=1" ∷ tells "REFUSED 82 BadNumber"
      ∷ asks "route @&OFFSET=0x1&WIDTH=1" ∷ tells "REFUSED 82 BadNumber"
      ∷ asks "route @&OFFSET=-1&WIDTH=1" ∷ tells "REFUSED 82 BadNumber"
      ∷ asks "route @&OFFSET=0=&WIDTH=1" ∷ tells "REFUSED 82 BadNumber"
      ∷ asks "route @&OFFSET=10000&WIDTH=1" ∷ tells "REFUSED 82 BadNumber"
      ∷ asks "route @&OFFSET=ffffffff&WIDTH=1" ∷ tells "REFUSED 82 BadNumber"
      ∷ asks "route @&OFFSET=000000001&WIDTH=1" ∷ tells "REFUSED 82 BadNumber"
      ∷ asks "route @&OFFSET=0&WIDTH=" ∷ tells "REFUSED 82 BadNumber"
      ∷ asks "route @&OFFSET=0&WIDTH=0" ∷ tells "REFUSED 82 BadNumber"
      ∷ asks "route @&OFFSET=0&WIDTH=00000000" ∷ tells "REFUSED 82 BadNumber"
      ∷ asks "route @&OFFSET=0&WIDTH=10000" ∷ tells "REFUSED 82 BadNumber"
      ∷ asks "route @&OFFSET=0&WIDTH=000000001" ∷ tells "REFUSED 82 BadNumber"
      ∷ asks "route @&OFFSET=0&WIDTH=0000000000000001" ∷ tells "REFUSED 82 BadNumber"
      ∷ asks "route @&OFFSET=0&WIDTH=1g" ∷ tells "REFUSED 82 BadNumber"
      ∷ asks "route @&OFFSET=0&WIDTH=1&VALUE=" ∷ tells "REFUSED 82 BadNumber"
      ∷ asks "route @&OFFSET=0&WIDTH=1&VALUE=&OFFSET=0" ∷ tells "REFUSED 82 BadNumber"
      ∷ asks "route @&OFFSET=0&WIDTH=1&VALUE=g" ∷ tells "REFUSED 82 BadNumber"
      ∷ asks "route @&OFFSET=0&WIDTH=1&VALUE=-1" ∷ tells "REFUSED 82 BadNumber"
      ∷ asks "route @&OFFSET=0&WIDTH=1&VALUE=0x1" ∷ tells "REFUSED 82 BadNumber"
      ∷ asks "route @&OFFSET=0&WIDTH=1&VALUE=1=" ∷ tells "REFUSED 82 BadNumber"
      ∷ asks "route @&OFFSET=0&WIDTH=1&VALUE=100g" ∷ tells "REFUSED 82 BadNumber"
      ∷ asks "route @&OFFSET=0&WIDTH=1&VALUE=g100" ∷ tells "REFUSED 82 BadNumber"
      ∷ asks "route @&OFFSET=0&WIDTH=0&VALUE=1" ∷ tells "REFUSED 82 BadNumber"
      ∷ asks "route @&OFFSET=000000001&WIDTH=1&VALUE=1" ∷ tells "REFUSED 82 BadNumber"
      ∷ asks "extract @&OFFSET=0&WIDTH=ffff" ∷ tells "DENIED nofield at 00000000"
      ∷ [];
  left = codes "HVS2" ++ hex "22222222222222222222222222222222 0100 0100 0200 0102";
}

numbers_that_are_refused-holds : Holds numbers_that_are_refused
unfolding computing
numbers_that_are_refused-holds = record {
  stores = (1, hex "0102") ∷ [];
  opened = record { sound = refl; spelled = record { form = inr refl; laid = refl } };
  answers = refl;
  ended = refl;
  image = refl;
}

abbrev pub values_that_are_too_wide : Case
values_that_are_too_wide = record usual {
  list = forms_list (opening 2 ++ hexes
      ("060e 0300 0000 0100 0100 0000 00 00"  -- 39 CHECKBOX
      ∷ "2902 2902"  -- 47 49 END
      ∷ []));
  image = codes "HVS1" ++ hex "0100 0100 0200 0102";
  said = asks "route @&OFFSET=0&WIDTH=1&VALUE=100" ∷ tells "REFUSED 83 ValueWidth"
      ∷ asks "route @&OFFSET=0&WIDTH=1&VALUE=f00" ∷ tells "REFUSED 83 ValueWidth"
      ∷ asks "route @&OFFSET=0&WIDTH=1&VALUE=00100" ∷ tells "REFUSED 83 ValueWidth"
      ∷ asks "route @&OFFSET=0&WIDTH=2&VALUE=10000" ∷ tells "REFUSED 83 ValueWidth"
      ∷ asks "route @&OFFSET=0&WIDTH=2&VALUE=800000000000000000" ∷ tells "REFUSED 83 ValueWidth"
      ∷ asks "route @&OFFSET=0&WIDTH=1&VALUE=001" ∷ tells "OK 1"
      ∷ asks "route @&OFFSET=0&WIDTH=1&VALUE=000000000000000000000000000000000000000000000000000000000000"
      ∷ tells "OK 1"
      ∷ asks "submit" ∷ tells "OK 1" ∷ tells "CHANGED 1"
      ∷ [];
  left = codes "HVS2" ++ hex "22222222222222222222222222222222 0100 0100 0200 0002";
}

values_that_are_too_wide-holds : Holds values_that_are_too_wide
unfolding computing
values_that_are_too_wide-holds = record {
  stores = (1, hex "0102") ∷ [];
  opened = record { sound = refl; spelled = record { form = inr refl; laid = refl } };
  answers = refl;
  ended = refl;
  image = refl;
}

abbrev pub leftmost_fault_is_told : Case
leftmost_fault_is_told = record usual {
  list = forms_list (opening 2 ++ hexes
      ("060e 0300 0000 0100 0100 0000 00 00"  -- 39 CHECKBOX
      ∷ "2902 2902"  -- 47 49 END
      ∷ []));
  image = codes "HVS1" ++ hex "0100 0100 0200 0102";
  said = asks "extract @&OFFSET=g" ∷ tells "REFUSED 82 BadNumber"
      ∷ asks "extract @&OFFSET=0&WIDTH=0&OFFSET" ∷ tells "REFUSED 82 BadNumber"
      ∷ asks "extract @&OFFSET=0&WIDTH=1&WIDTH=g" ∷ tells "REFUSED 81 BadElement"
      ∷ asks "extract x&OFFSET=g" ∷ tells "REFUSED 80 BadHeader"
      ∷ asks "route @&OFFSET=0&WIDTH=1&VALUE=100&OFFSET=g" ∷ tells "REFUSED 83 ValueWidth"
      ∷ asks "route @&OFFSET=0&WIDTH=1&VALUE=1&OFFSET=g" ∷ tells "REFUSED 82 BadNumber"
      ∷ asks "route @&OFFSET=g&WIDTH=1&VALUE=100" ∷ tells "REFUSED 82 BadNumber"
      ∷ asks "route @&OFFSET=0&WIDTH=1&VALUE=100&" ∷ tells "REFUSED 83 ValueWidth"
      ∷ asks "route @&OFFSET=0&WIDTH=1&VALUE=1&&OFFSET=0&WIDTH=1&VALUE=100" ∷ tells "REFUSED 81 BadElement"
      ∷ asks "extract GUID=33333333333333333333333333333333&NAME=0057&PATH=&OFFSET=g&WIDTH=1"
      ∷ tells "REFUSED 82 BadNumber"
      ∷ asks "extract @&OFFSET=9&WIDTH=1&" ∷ tells "REFUSED 81 BadElement"
      ∷ asks "route GUID=33333333333333333333333333333333&NAME=0057&PATH=&OFFSET=0&WIDTH=1&VALUE=100"
      ∷ tells "REFUSED 83 ValueWidth"
      ∷ asks "route @&OFFSET=9&WIDTH=1&VALUE=1&OFFSET=0" ∷ tells "REFUSED 81 BadElement"
      ∷ asks "extract GUID=33333333333333333333333333333333&NAME=0057&PATH=&OFFSET=9&WIDTH=1"
      ∷ tells "DENIED nostore at 00000000"
      ∷ asks "route GUID=33333333333333333333333333333333&NAME=0057&PATH=&OFFSET=9&WIDTH=1&VALUE=1"
      ∷ tells "DENIED nostore at 00000000"
      ∷ [];
  left = codes "HVS2" ++ hex "22222222222222222222222222222222 0100 0100 0200 0102";
}

leftmost_fault_is_told-holds : Holds leftmost_fault_is_told
unfolding computing
leftmost_fault_is_told-holds = record {
  stores = (1, hex "0102") ∷ [];
  opened = record { sound = refl; spelled = record { form = inr refl; laid = refl } };
  answers = refl;
  ended = refl;
  image = refl;
}

abbrev pub digits_of_numbers : Case
digits_of_numbers = record usual {
  list = forms_list (opening 12 ++ hexes
      ("060e 0300 0000 0100 0100 0000 00 00"  -- 39 CHECKBOX
      ∷ "0714 0400 0000 0200 0100 0a00 00 11 0000 ffff 0400"  -- 47 NUMERIC
      ∷ "2902 2902"  -- 5b 5d END
      ∷ []));
  image = codes "HVS1" ++ hex "0100 0100 0c00 000102030405060708090a0b";
  said = asks "extract @&OFFSET=a&WIDTH=2" ∷ tells "CONFIG @&OFFSET=000a&WIDTH=0002&VALUE=0b0a"
      ∷ asks "extract @&OFFSET=A&WIDTH=2" ∷ tells "CONFIG @&OFFSET=000a&WIDTH=0002&VALUE=0b0a"
      ∷ asks "extract @&OFFSET=00a&WIDTH=02" ∷ tells "CONFIG @&OFFSET=000a&WIDTH=0002&VALUE=0b0a"
      ∷ asks "extract @&OFFSET=0000000A&WIDTH=00000002" ∷ tells "CONFIG @&OFFSET=000a&WIDTH=0002&VALUE=0b0a"
      ∷ asks "route @&OFFSET=0000000A&WIDTH=00000002&VALUE=aBc" ∷ tells "OK 1"
      ∷ asks "submit" ∷ tells "OK 1" ∷ tells "CHANGED 2"
      ∷ asks "extract @&OFFSET=a&WIDTH=2" ∷ tells "CONFIG @&OFFSET=000a&WIDTH=0002&VALUE=0abc"
      ∷ [];
  left = codes "HVS2" ++ hex "22222222222222222222222222222222 0100 0100 0c00 00010203040506070809bc0a";
}

digits_of_numbers-holds : Holds digits_of_numbers
unfolding computing
digits_of_numbers-holds = record {
  stores = (1, hex "000102030405060708090a0b") ∷ [];
  opened = record { sound = refl; spelled = record { form = inr refl; laid = refl } };
  answers = refl;
  ended = refl;
  image = refl;
}

-- ---- extract

abbrev pub store_is_extracted : Case
store_is_extracted = record usual {
  list = forms_list (opening 2 ++ hexes
      ("060e 0300 0000 0100 0100 0000 00 00"  -- 39 CHECKBOX
      ∷ "2902 2902"  -- 47 49 END
      ∷ []));
  image = codes "HVS1" ++ hex "0100 0100 0200 0102";
  said = asks "extract @" ∷ tells "CONFIG @&OFFSET=0000&WIDTH=0002&VALUE=0201"
      ∷ asks "extract @&OFFSET=1&WIDTH=2" ∷ tells "DENIED nofield at 00000000"
      ∷ asks "extract x" ∷ tells "REFUSED 80 BadHeader"
      ∷ asks "extract GUID=00000000000000000000000000000000&NAME=0056&PATH=" ∷ tells "DENIED nostore at 00000000"
      ∷ [];
  left = codes "HVS2" ++ hex "22222222222222222222222222222222 0100 0100 0200 0102";
}

store_is_extracted-holds : Holds store_is_extracted
unfolding computing
store_is_extracted-holds = record {
  stores = (1, hex "0102") ∷ [];
  opened = record { sound = refl; spelled = record { form = inr refl; laid = refl } };
  answers = refl;
  ended = refl;
  image = refl;
}

abbrev pub blocks_are_extracted_in_their_order : Case
blocks_are_extracted_in_their_order = record usual {
  list = forms_list (opening 6 ++ hexes
      ("060e 0300 0000 0100 0100 0000 00 00"  -- 39 CHECKBOX
      ∷ "2902 2902"  -- 47 49 END
      ∷ []));
  image = codes "HVS1" ++ hex "0100 0100 0600 a1b2c3d4e5f6";
  said = asks "extract @&OFFSET=4&WIDTH=2" ∷ tells "CONFIG @&OFFSET=0004&WIDTH=0002&VALUE=f6e5"
      ∷ asks "extract @&OFFSET=3&WIDTH=1&OFFSET=0&WIDTH=1&OFFSET=3&WIDTH=1"
      ∷ tells "CONFIG @&OFFSET=0003&WIDTH=0001&VALUE=d4&OFFSET=0000&WIDTH=0001&VALUE=a1&OFFSET=0003&WIDTH=0001&VALUE=d4"
      ∷ asks "extract @&OFFSET=0&WIDTH=4&OFFSET=2&WIDTH=4"
      ∷ tells "CONFIG @&OFFSET=0000&WIDTH=0004&VALUE=d4c3b2a1&OFFSET=0002&WIDTH=0004&VALUE=f6e5d4c3"
      ∷ asks "extract @&OFFSET=0&WIDTH=6" ∷ tells "CONFIG @&OFFSET=0000&WIDTH=0006&VALUE=f6e5d4c3b2a1"
      ∷ asks "extract @" ∷ tells "CONFIG @&OFFSET=0000&WIDTH=0006&VALUE=f6e5d4c3b2a1"
      ∷ [];
  left = codes "HVS2" ++ hex "22222222222222222222222222222222 0100 0100 0600 a1b2c3d4e5f6";
}

blocks_are_extracted_in_their_order-holds : Holds blocks_are_extracted_in_their_order
unfolding computing
blocks_are_extracted_in_their_order-holds = record {
  stores = (1, hex "a1b2c3d4e5f6") ∷ [];
  opened = record { sound = refl; spelled = record { form = inr refl; laid = refl } };
  answers = refl;
  ended = refl;
  image = refl;
}

abbrev pub blocks_that_leave_their_store : Case
blocks_that_leave_their_store = record usual {
  list = forms_list (opening 6 ++ hexes
      ("060e 0300 0000 0100 0100 0000 00 00"  -- 39 CHECKBOX
      ∷ "2902 2902"  -- 47 49 END
      ∷ []));
  image = codes "HVS1" ++ hex "0100 0100 0600 a1b2c3d4e5f6";
  said = asks "extract @&OFFSET=0&WIDTH=7" ∷ tells "DENIED nofield at 00000000"
      ∷ asks "extract @&OFFSET=5&WIDTH=2" ∷ tells "DENIED nofield at 00000000"
      ∷ asks "extract @&OFFSET=6&WIDTH=1" ∷ tells "DENIED nofield at 00000000"
      ∷ asks "extract @&OFFSET=0&WIDTH=ffff" ∷ tells "DENIED nofield at 00000000"
      ∷ asks "extract @&OFFSET=ffff&WIDTH=1" ∷ tells "DENIED nofield at 00000000"
      ∷ asks "extract @&OFFSET=ffff&WIDTH=ffff" ∷ tells "DENIED nofield at 00000000"
      ∷ asks "extract @&OFFSET=0&WIDTH=1&OFFSET=6&WIDTH=1" ∷ tells "DENIED nofield at 00000000"
      ∷ asks "extract @&OFFSET=5&WIDTH=1" ∷ tells "CONFIG @&OFFSET=0005&WIDTH=0001&VALUE=f6"
      ∷ [];
  left = codes "HVS2" ++ hex "22222222222222222222222222222222 0100 0100 0600 a1b2c3d4e5f6";
}

blocks_that_leave_their_store-holds : Holds blocks_that_leave_their_store
unfolding computing
blocks_that_leave_their_store-holds = record {
  stores = (1, hex "a1b2c3d4e5f6") ∷ [];
  opened = record { sound = refl; spelled = record { form = inr refl; laid = refl } };
  answers = refl;
  ended = refl;
  image = refl;
}

abbrev pub what_was_submitted_is_extracted : Case
what_was_submitted_is_extracted = record usual {
  list = forms_list (opening 2 ++ hexes
      ("060e 0300 0000 0100 0100 0000 00 00"  -- 39 CHECKBOX
      ∷ "2902 2902"  -- 47 49 END
      ∷ []));
  image = codes "HVS1" ++ hex "0100 0100 0200 0000";
  said = asks "set 1 1" ∷ tells "OK"
      ∷ asks "extract @" ∷ tells "CONFIG @&OFFSET=0000&WIDTH=0002&VALUE=0000"
      ∷ asks "submit" ∷ tells "OK 1" ∷ tells "CHANGED 1"
      ∷ asks "extract @" ∷ tells "CONFIG @&OFFSET=0000&WIDTH=0002&VALUE=0001"
      ∷ asks "route @&OFFSET=0&WIDTH=1&VALUE=0" ∷ tells "OK 1"
      ∷ asks "extract @" ∷ tells "CONFIG @&OFFSET=0000&WIDTH=0002&VALUE=0001"
      ∷ asks "discard" ∷ tells "OK"
      ∷ asks "extract @" ∷ tells "CONFIG @&OFFSET=0000&WIDTH=0002&VALUE=0001"
      ∷ [];
  left = codes "HVS2" ++ hex "22222222222222222222222222222222 0100 0100 0200 0100";
}

what_was_submitted_is_extracted-holds : Holds what_was_submitted_is_extracted
unfolding computing
what_was_submitted_is_extracted-holds = record {
  stores = (1, hex "0000") ∷ [];
  opened = record { sound = refl; spelled = record { form = inr refl; laid = refl } };
  answers = refl;
  ended = refl;
  image = refl;
}

abbrev pub store_without_bytes : Case
store_without_bytes = record usual {
  list = forms_list (opening 0 ++ hexes
      ("060e 0300 0000 0100 0000 0000 00 00"  -- 39 CHECKBOX
      ∷ "2902 2902"  -- 47 49 END
      ∷ []));
  image = codes "HVS1" ++ hex "0100 0100 0000";
  said = asks "extract @" ∷ tells "CONFIG @"
      ∷ asks "extract @&OFFSET=0&WIDTH=1" ∷ tells "DENIED nofield at 00000000"
      ∷ asks "route @" ∷ tells "OK 0"
      ∷ asks "route @&OFFSET=0&WIDTH=1&VALUE=0" ∷ tells "DENIED nofield at 00000000"
      ∷ [];
  left = codes "HVS2" ++ hex "22222222222222222222222222222222 0100 0100 0000";
}

store_without_bytes-holds : Holds store_without_bytes
unfolding computing
store_without_bytes-holds = record {
  stores = (1, []) ∷ [];
  opened = record { sound = refl; spelled = record { form = inr refl; laid = refl } };
  answers = refl;
  ended = refl;
  image = refl;
}

abbrev pub password_alone_is_not_told : Case
password_alone_is_not_told = record usual {
  list = forms_list (opening 2 ++ hexes
      ("0811 0300 0000 0100 0100 0000 00 0000 0100"  -- 39 PASSWORD
      ∷ "2902 2902"  -- 4a 4c END
      ∷ []));
  image = codes "HVS1" ++ hex "0100 0100 0200 0102";
  said = asks "extract @" ∷ tells "DENIED password at 00000039"
      ∷ [];
  left = codes "HVS2" ++ hex "22222222222222222222222222222222 0100 0100 0200 0102";
}

password_alone_is_not_told-holds : Holds password_alone_is_not_told
unfolding computing
password_alone_is_not_told-holds = record {
  stores = (1, hex "0102") ∷ [];
  opened = record { sound = refl; spelled = record { form = inr refl; laid = refl } };
  answers = refl;
  ended = refl;
  image = refl;
}

abbrev pub password_that_is_hidden_is_not_told : Case
password_that_is_hidden_is_not_told = record usual {
  list = forms_list (opening 2 ++ hexes
      ("0a82"  -- 39 SUPPRESS_IF
      ∷ "  4602"  -- 3b TRUE
      ∷ "  0811 0300 0000 0100 0100 0000 00 0000 0100"  -- 3d PASSWORD
      ∷ "2902 2902 2902"  -- 4e 50 52 END
      ∷ []));
  image = codes "HVS1" ++ hex "0100 0100 0200 0102";
  said = asks "extract @" ∷ tells "DENIED password at 0000003d"
      ∷ [];
  left = codes "HVS2" ++ hex "22222222222222222222222222222222 0100 0100 0200 0102";
}

password_that_is_hidden_is_not_told-holds : Holds password_that_is_hidden_is_not_told
unfolding computing
password_that_is_hidden_is_not_told-holds = record {
  stores = (1, hex "0102") ∷ [];
  opened = record { sound = refl; spelled = record { form = inr refl; laid = refl } };
  answers = refl;
  ended = refl;
  image = refl;
}

abbrev pub passwords_are_not_told : Case
passwords_are_not_told = record usual {
  list = forms_list (opening 8 ++ hexes
      ("0811 0300 0000 0100 0100 0400 00 0000 0100"  -- 39 PASSWORD
      ∷ "0811 0400 0000 0200 0100 0100 00 0000 0100"  -- 4a PASSWORD
      ∷ "2902 2902"  -- 5b 5d END
      ∷ []));
  image = codes "HVS1" ++ hex "0100 0100 0800 0001020304050607";
  said = asks "extract @" ∷ tells "DENIED password at 00000039"
      ∷ asks "extract @&OFFSET=0&WIDTH=1&OFFSET=3&WIDTH=1&OFFSET=6&WIDTH=2"
      ∷ tells "CONFIG @&OFFSET=0000&WIDTH=0001&VALUE=00&OFFSET=0003&WIDTH=0001&VALUE=03&OFFSET=0006&WIDTH=0002&VALUE=0706"
      ∷ asks "extract @&OFFSET=0&WIDTH=2" ∷ tells "DENIED password at 0000004a"
      ∷ asks "extract @&OFFSET=2&WIDTH=2" ∷ tells "DENIED password at 0000004a"
      ∷ asks "extract @&OFFSET=2&WIDTH=3" ∷ tells "DENIED password at 00000039"
      ∷ asks "extract @&OFFSET=5&WIDTH=1" ∷ tells "DENIED password at 00000039"
      ∷ asks "extract @&OFFSET=3&WIDTH=5" ∷ tells "DENIED password at 00000039"
      ∷ asks "extract @&OFFSET=0&WIDTH=3&OFFSET=4&WIDTH=1" ∷ tells "DENIED password at 0000004a"
      ∷ asks "extract @&OFFSET=4&WIDTH=1&OFFSET=8&WIDTH=1" ∷ tells "DENIED password at 00000039"
      ∷ asks "extract @&OFFSET=8&WIDTH=1&OFFSET=4&WIDTH=1" ∷ tells "DENIED nofield at 00000000"
      ∷ asks "extract @&OFFSET=4&WIDTH=9" ∷ tells "DENIED nofield at 00000000"
      ∷ [];
  left = codes "HVS2" ++ hex "22222222222222222222222222222222 0100 0100 0800 0001020304050607";
}

passwords_are_not_told-holds : Holds passwords_are_not_told
unfolding computing
passwords_are_not_told-holds = record {
  stores = (1, hex "0001020304050607") ∷ [];
  opened = record { sound = refl; spelled = record { form = inr refl; laid = refl } };
  answers = refl;
  ended = refl;
  image = refl;
}

abbrev pub passwords_that_meet_no_block : Case
passwords_that_meet_no_block = record usual {
  list = forms_list (opening 2 ++ hexes
      ("0811 0300 0000 0100 0100 0100 00 0000 0000"  -- 39 PASSWORD
      ∷ "0811 0400 0000 0200 0000 0000 00 0000 0100"  -- 4a PASSWORD
      ∷ "2902 2902"  -- 5b 5d END
      ∷ []));
  image = codes "HVS1" ++ hex "0100 0100 0200 0102";
  said = asks "extract @" ∷ tells "CONFIG @&OFFSET=0000&WIDTH=0002&VALUE=0201"
      ∷ asks "extract @&OFFSET=1&WIDTH=1" ∷ tells "CONFIG @&OFFSET=0001&WIDTH=0001&VALUE=02"
      ∷ [];
  left = codes "HVS2" ++ hex "22222222222222222222222222222222 0100 0100 0200 0102";
}

passwords_that_meet_no_block-holds : Holds passwords_that_meet_no_block
unfolding computing
passwords_that_meet_no_block-holds = record {
  stores = (1, hex "0102") ∷ [];
  opened = record { sound = refl; spelled = record { form = inr refl; laid = refl } };
  answers = refl;
  ended = refl;
  image = refl;
}

abbrev pub stores_by_the_path_of_the_list : Case
stores_by_the_path_of_the_list = record usual {
  list = package_list (packed 2 (opening 2 ++ hexes
      ("060e 0300 0000 0100 0100 0000 00 00"  -- 39 CHECKBOX
      ∷ "2902 2902"  -- 47 49 END
      ∷ []))
      ++ packed 8 (hex "02010c00d041030a000000007fff0400")
      ++ packed 8 (hex "7fff0400"));
  image = codes "HVS1" ++ hex "0100 0100 0200 0102";
  said = asks "extract @02010c00d041030a000000007fff0400"
      ∷ tells "CONFIG @02010c00d041030a000000007fff0400&OFFSET=0000&WIDTH=0002&VALUE=0201"
      ∷ asks "extract @02010C00D041030A000000007FFF0400"
      ∷ tells "CONFIG @02010c00d041030a000000007fff0400&OFFSET=0000&WIDTH=0002&VALUE=0201"
      ∷ asks "route @02010c00d041030a000000007fff0400&OFFSET=0&WIDTH=1&VALUE=0" ∷ tells "OK 1"
      ∷ asks "submit" ∷ tells "OK 1" ∷ tells "CHANGED 1"
      ∷ asks "extract @" ∷ tells "DENIED nostore at 00000000"
      ∷ asks "extract @02010c00d041030a000000007fff04" ∷ tells "DENIED nostore at 00000000"
      ∷ asks "extract @02010c00d041030a000000007fff040000" ∷ tells "DENIED nostore at 00000000"
      ∷ asks "extract @7fff0400" ∷ tells "DENIED nostore at 00000000"
      ∷ asks "extract @02010c00d041030a000000007fff04007fff0400" ∷ tells "DENIED nostore at 00000000"
      ∷ asks "route @" ∷ tells "DENIED nostore at 00000000"
      ∷ asks "route @02010c00d041030a000000007fff04" ∷ tells "DENIED nostore at 00000000"
      ∷ asks "route @02010c00d041030a000000007fff040000" ∷ tells "DENIED nostore at 00000000"
      ∷ asks "route @7fff0400" ∷ tells "DENIED nostore at 00000000"
      ∷ asks "route @02010c00d041030a000000007fff04007fff0400" ∷ tells "DENIED nostore at 00000000"
      ∷ [];
  left = codes "HVS2" ++ hex "22222222222222222222222222222222 0100 0100 0200 0002";
}

stores_by_the_path_of_the_list-holds : Holds stores_by_the_path_of_the_list
unfolding computing
stores_by_the_path_of_the_list-holds = record {
  stores = (1, hex "0102") ∷ [];
  opened = record { sound = refl; spelled = record { form = inr refl; laid = refl } };
  answers = refl;
  ended = refl;
  image = refl;
}

abbrev pub first_path_of_the_list_is_empty : Case
first_path_of_the_list_is_empty = record usual {
  list = package_list (packed 8 ([]) ++ packed 2 (opening 2 ++ hexes
      ("060e 0300 0000 0100 0100 0000 00 00"  -- 39 CHECKBOX
      ∷ "2902 2902"  -- 47 49 END
      ∷ []))
      ++ packed 8 (hex "02010c00d041030a000000007fff0400"));
  image = codes "HVS1" ++ hex "0100 0100 0200 0102";
  said = asks "extract @" ∷ tells "CONFIG @&OFFSET=0000&WIDTH=0002&VALUE=0201"
      ∷ asks "extract @02010c00d041030a000000007fff0400" ∷ tells "DENIED nostore at 00000000"
      ∷ [];
  left = codes "HVS2" ++ hex "22222222222222222222222222222222 0100 0100 0200 0102";
}

first_path_of_the_list_is_empty-holds : Holds first_path_of_the_list_is_empty
unfolding computing
first_path_of_the_list_is_empty-holds = record {
  stores = (1, hex "0102") ∷ [];
  opened = record { sound = refl; spelled = record { form = inr refl; laid = refl } };
  answers = refl;
  ended = refl;
  image = refl;
}

-- ---- route

abbrev pub denied_route_changes_nothing : Case
denied_route_changes_nothing = record usual {
  list = forms_list (opening 2 ++ hexes
      ("060e 0300 0000 0100 0100 0000 00 00"  -- 39 CHECKBOX
      ∷ "068e 0400 0000 0200 0100 0100 00 00"  -- 47 CHECKBOX
      ∷ "  1184 0700"  -- 55 INCONSISTENT_IF
      ∷ "    1206 0200 0100"  -- 59 EQ_ID_VAL
      ∷ "  2902 2902 2902 2902"  -- 5f 61 63 65 END
      ∷ []));
  image = codes "HVS1" ++ hex "0100 0100 0200 0000";
  said = asks "route @&OFFSET=0&WIDTH=1&VALUE=1&OFFSET=1&WIDTH=1&VALUE=1"
      ∷ tells "DENIED inconsistentif at 00000055 #7"
      ∷ asks "submit" ∷ tells "OK 0"
      ∷ asks "route @&OFFSET=0&WIDTH=1&VALUE=01" ∷ tells "OK 1"
      ∷ asks "route @" ∷ tells "OK 0"
      ∷ asks "route @&OFFSET=0&WIDTH=1&VALUE=100" ∷ tells "REFUSED 83 ValueWidth"
      ∷ asks "route @&OFFSET=0&WIDTH=2&VALUE=1" ∷ tells "DENIED nofield at 00000000"
      ∷ [];
  left = codes "HVS2" ++ hex "22222222222222222222222222222222 0100 0100 0200 0000";
}

denied_route_changes_nothing-holds : Holds denied_route_changes_nothing
unfolding computing
denied_route_changes_nothing-holds = record {
  stores = (1, hex "0000") ∷ [];
  opened = record { sound = refl; spelled = record { form = inr refl; laid = refl } };
  answers = refl;
  ended = refl;
  image = refl;
}

abbrev pub denied_route_keeps_what_was_set_before : Case
denied_route_keeps_what_was_set_before = record usual {
  list = forms_list (opening 3 ++ hexes
      ("060e 0300 0000 0100 0100 0000 00 00"  -- 39 CHECKBOX
      ∷ "060e 0400 0000 0200 0100 0100 00 00"  -- 47 CHECKBOX
      ∷ "068e 0500 0000 0300 0100 0200 00 00"  -- 55 CHECKBOX
      ∷ "  1184 0700"  -- 63 INCONSISTENT_IF
      ∷ "    4602"  -- 67 TRUE
      ∷ "  2902 2902 2902 2902"  -- 69 6b 6d 6f END
      ∷ []));
  image = codes "HVS1" ++ hex "0100 0100 0300 000000";
  said = asks "set 1 1" ∷ tells "OK"
      ∷ asks "route @&OFFSET=0&WIDTH=1&VALUE=0&OFFSET=1&WIDTH=1&VALUE=1&OFFSET=0&WIDTH=1&VALUE=1&OFFSET=2&WIDTH=1&VALUE=1"
      ∷ tells "DENIED inconsistentif at 00000063 #7"
      ∷ asks "page"
      ∷ tells "FORM 1 #2"
      ∷ tells "  1 *     1 #3                       [x]"
      ∷ tells "  2 *     2 #4                       [ ]"
      ∷ tells "  3 *     3 #5                       [ ]"
      ∷ asks "route @&OFFSET=1&WIDTH=1&VALUE=1&OFFSET=0&WIDTH=1&VALUE=0&OFFSET=3&WIDTH=1&VALUE=1"
      ∷ tells "DENIED nofield at 00000000"
      ∷ asks "page"
      ∷ tells "FORM 1 #2"
      ∷ tells "  1 *     1 #3                       [x]"
      ∷ tells "  2 *     2 #4                       [ ]"
      ∷ tells "  3 *     3 #5                       [ ]"
      ∷ asks "submit" ∷ tells "OK 1" ∷ tells "CHANGED 1"
      ∷ asks "route @&OFFSET=0&WIDTH=1&VALUE=0&OFFSET=0&WIDTH=1&VALUE=1&OFFSET=1&WIDTH=1&VALUE=1" ∷ tells "OK 3"
      ∷ asks "submit" ∷ tells "OK 1" ∷ tells "CHANGED 2"
      ∷ asks "route @&OFFSET=0&WIDTH=1&VALUE=0&OFFSET=1&WIDTH=1&VALUE=0&OFFSET=2&WIDTH=1&VALUE=0"
      ∷ tells "DENIED inconsistentif at 00000063 #7"
      ∷ asks "page"
      ∷ tells "FORM 1 #2"
      ∷ tells "  1 *     1 #3                       [x]"
      ∷ tells "  2 *     2 #4                       [x]"
      ∷ tells "  3 *     3 #5                       [ ]"
      ∷ asks "discard" ∷ tells "OK"
      ∷ asks "submit" ∷ tells "OK 0"
      ∷ asks "route @&OFFSET=0&WIDTH=1&VALUE=0&OFFSET=2&WIDTH=1&VALUE=100" ∷ tells "REFUSED 83 ValueWidth"
      ∷ asks "submit" ∷ tells "OK 0"
      ∷ [];
  left = codes "HVS2" ++ hex "22222222222222222222222222222222 0100 0100 0300 010100";
}

denied_route_keeps_what_was_set_before-holds : Holds denied_route_keeps_what_was_set_before
unfolding computing
denied_route_keeps_what_was_set_before-holds = record {
  stores = (1, hex "000000") ∷ [];
  opened = record { sound = refl; spelled = record { form = inr refl; laid = refl } };
  answers = refl;
  ended = refl;
  image = refl;
}

abbrev pub blocks_are_set_one_after_the_other : Case
blocks_are_set_one_after_the_other = record usual {
  list = forms_list (opening 2 ++ hexes
      ("0a82"  -- 39 SUPPRESS_IF
      ∷ "  1206 0200 0100"  -- 3b EQ_ID_VAL
      ∷ "  060e 0300 0000 0100 0100 0000 00 00"  -- 41 CHECKBOX
      ∷ "2902"  -- 4f END
      ∷ "060e 0400 0000 0200 0100 0100 00 00"  -- 51 CHECKBOX
      ∷ "2902 2902"  -- 5f 61 END
      ∷ []));
  image = codes "HVS1" ++ hex "0100 0100 0200 0000";
  said = asks "why 1" ∷ tells "OK"
      ∷ asks "route @&OFFSET=1&WIDTH=1&VALUE=1&OFFSET=0&WIDTH=1&VALUE=1" ∷ tells "DENIED suppressif at 00000039"
      ∷ asks "why 1" ∷ tells "OK"
      ∷ asks "set 2 1" ∷ tells "OK"
      ∷ asks "set 2 1" ∷ tells "OK"
      ∷ asks "why 1" ∷ tells "DENIED suppressif at 00000039"
      ∷ asks "discard" ∷ tells "OK"
      ∷ asks "why 1" ∷ tells "OK"
      ∷ asks "route @&OFFSET=0&WIDTH=1&VALUE=1&OFFSET=1&WIDTH=1&VALUE=1" ∷ tells "OK 2"
      ∷ asks "why 1" ∷ tells "DENIED suppressif at 00000039"
      ∷ asks "route @&OFFSET=1&WIDTH=1&VALUE=0&OFFSET=0&WIDTH=1&VALUE=0" ∷ tells "OK 2"
      ∷ asks "route @&OFFSET=0&WIDTH=1&VALUE=1&OFFSET=1&WIDTH=1&VALUE=1" ∷ tells "OK 2"
      ∷ asks "submit" ∷ tells "OK 2" ∷ tells "CHANGED 1" ∷ tells "CHANGED 2"
      ∷ [];
  left = codes "HVS2" ++ hex "22222222222222222222222222222222 0100 0100 0200 0101";
}

blocks_are_set_one_after_the_other-holds : Holds blocks_are_set_one_after_the_other
unfolding computing
blocks_are_set_one_after_the_other-holds = record {
  stores = (1, hex "0000") ∷ [];
  opened = record { sound = refl; spelled = record { form = inr refl; laid = refl } };
  answers = refl;
  ended = refl;
  image = refl;
}

abbrev pub first_question_that_is_not_fixed_is_set : Case
first_question_that_is_not_fixed_is_set = record usual {
  list = forms_list (opening 2 ++ hexes
      ("0a82"  -- 39 SUPPRESS_IF
      ∷ "  1206 0200 0100"  -- 3b EQ_ID_VAL
      ∷ "  060e 0300 0000 0100 0100 0000 00 00"  -- 41 CHECKBOX
      ∷ "2902"  -- 4f END
      ∷ "060e 0500 0000 0300 0100 0000 00 00"  -- 51 CHECKBOX
      ∷ "060e 0400 0000 0200 0100 0100 00 00"  -- 5f CHECKBOX
      ∷ "2902 2902"  -- 6d 6f END
      ∷ []));
  image = codes "HVS1" ++ hex "0100 0100 0200 0001";
  said = asks "route @&OFFSET=0&WIDTH=1&VALUE=1" ∷ tells "OK 1"
      ∷ asks "submit" ∷ tells "OK 2" ∷ tells "CHANGED 1" ∷ tells "CHANGED 3"
      ∷ [];
  left = codes "HVS2" ++ hex "22222222222222222222222222222222 0100 0100 0200 0101";
}

first_question_that_is_not_fixed_is_set-holds : Holds first_question_that_is_not_fixed_is_set
unfolding computing
first_question_that_is_not_fixed_is_set-holds = record {
  stores = (1, hex "0001") ∷ [];
  opened = record { sound = refl; spelled = record { form = inr refl; laid = refl } };
  answers = refl;
  ended = refl;
  image = refl;
}

abbrev pub first_question_denies_where_all_are_fixed : Case
first_question_denies_where_all_are_fixed = record usual {
  list = forms_list (opening 2 ++ hexes
      ("0a82"  -- 39 SUPPRESS_IF
      ∷ "  1206 0200 0100"  -- 3b EQ_ID_VAL
      ∷ "  060e 0300 0000 0100 0100 0000 00 00"  -- 41 CHECKBOX
      ∷ "2902"  -- 4f END
      ∷ "060e 0500 0000 0300 0100 0000 01 00"  -- 51 CHECKBOX
      ∷ "060e 0400 0000 0200 0100 0100 00 00"  -- 5f CHECKBOX
      ∷ "2902 2902"  -- 6d 6f END
      ∷ []));
  image = codes "HVS1" ++ hex "0100 0100 0200 0001";
  said = asks "route @&OFFSET=0&WIDTH=1&VALUE=1" ∷ tells "DENIED suppressif at 00000039"
      ∷ asks "submit" ∷ tells "OK 0"
      ∷ [];
  left = codes "HVS2" ++ hex "22222222222222222222222222222222 0100 0100 0200 0001";
}

first_question_denies_where_all_are_fixed-holds : Holds first_question_denies_where_all_are_fixed
unfolding computing
first_question_denies_where_all_are_fixed-holds = record {
  stores = (1, hex "0001") ∷ [];
  opened = record { sound = refl; spelled = record { form = inr refl; laid = refl } };
  answers = refl;
  ended = refl;
  image = refl;
}

abbrev pub field_of_exactly_this_place_and_width : Case
field_of_exactly_this_place_and_width = record usual {
  list = forms_list (opening 4 ++ hexes
      ("0714 0300 0000 0100 0100 0000 00 11 0000 ffff 0400"  -- 39 NUMERIC
      ∷ "0714 0400 0000 0200 0100 0100 00 11 0000 ffff 0400"  -- 4d NUMERIC
      ∷ "1c10 0500 0000 0300 0100 0300 00 00 00 00"  -- 61 STRING
      ∷ "2902 2902"  -- 71 73 END
      ∷ []));
  image = codes "HVS1" ++ hex "0100 0100 0400 00000000";
  said = asks "route @&OFFSET=0&WIDTH=2&VALUE=0201" ∷ tells "OK 1"
      ∷ asks "route @&OFFSET=1&WIDTH=2&VALUE=0403" ∷ tells "OK 1"
      ∷ asks "submit" ∷ tells "OK 2" ∷ tells "CHANGED 1" ∷ tells "CHANGED 2"
      ∷ asks "route @&OFFSET=0&WIDTH=1&VALUE=1" ∷ tells "DENIED nofield at 00000000"
      ∷ asks "route @&OFFSET=1&WIDTH=1&VALUE=1" ∷ tells "DENIED nofield at 00000000"
      ∷ asks "route @&OFFSET=0&WIDTH=3&VALUE=1" ∷ tells "DENIED nofield at 00000000"
      ∷ asks "route @&OFFSET=2&WIDTH=1&VALUE=1" ∷ tells "DENIED nofield at 00000000"
      ∷ asks "route @&OFFSET=2&WIDTH=2&VALUE=1" ∷ tells "DENIED nofield at 00000000"
      ∷ asks "route @&OFFSET=3&WIDTH=1&VALUE=1" ∷ tells "DENIED nofield at 00000000"
      ∷ asks "route @&OFFSET=ffff&WIDTH=2&VALUE=1" ∷ tells "DENIED nofield at 00000000"
      ∷ asks "route @&OFFSET=0&WIDTH=ffff&VALUE=1" ∷ tells "DENIED nofield at 00000000"
      ∷ asks "extract @" ∷ tells "CONFIG @&OFFSET=0000&WIDTH=0004&VALUE=00040301"
      ∷ [];
  left = codes "HVS2" ++ hex "22222222222222222222222222222222 0100 0100 0400 01030400";
}

field_of_exactly_this_place_and_width-holds : Holds field_of_exactly_this_place_and_width
unfolding computing
field_of_exactly_this_place_and_width-holds = record {
  stores = (1, hex "00000000") ∷ [];
  opened = record { sound = refl; spelled = record { form = inr refl; laid = refl } };
  answers = refl;
  ended = refl;
  image = refl;
}

abbrev pub route_gives_no_warning : Case
route_gives_no_warning = record usual {
  list = forms_list (opening 2 ++ hexes
      ("068e 0300 0000 0100 0100 0000 00 00"  -- 39 CHECKBOX
      ∷ "  6385 0900 00"  -- 47 WARNING_IF
      ∷ "    1206 0100 0100"  -- 4c EQ_ID_VAL
      ∷ "  2902 2902 2902 2902"  -- 52 54 56 58 END
      ∷ []));
  image = codes "HVS1" ++ hex "0100 0100 0200 0000";
  said = asks "set 1 1" ∷ tells "OK" ∷ tells "WARNING at 00000047 #9"
      ∷ asks "set 1 0" ∷ tells "OK"
      ∷ asks "route @&OFFSET=0&WIDTH=1&VALUE=1" ∷ tells "OK 1"
      ∷ asks "submit" ∷ tells "OK 1" ∷ tells "CHANGED 1"
      ∷ [];
  left = codes "HVS2" ++ hex "22222222222222222222222222222222 0100 0100 0200 0100";
}

route_gives_no_warning-holds : Holds route_gives_no_warning
unfolding computing
route_gives_no_warning-holds = record {
  stores = (1, hex "0000") ∷ [];
  opened = record { sound = refl; spelled = record { form = inr refl; laid = refl } };
  answers = refl;
  ended = refl;
  image = refl;
}

abbrev pub routed_checkbox : Case
routed_checkbox = record usual {
  list = forms_list (opening 2 ++ hexes
      ("060e 0300 0000 0100 0100 0000 00 00"  -- 39 CHECKBOX
      ∷ "2902 2902"  -- 47 49 END
      ∷ []));
  image = codes "HVS1" ++ hex "0100 0100 0200 0000";
  said = asks "route @&OFFSET=0&WIDTH=1&VALUE=2" ∷ tells "OK 1"
      ∷ asks "page" ∷ tells "FORM 1 #2" ∷ tells "  1 *     1 #3                       [x]"
      ∷ asks "submit" ∷ tells "OK 1" ∷ tells "CHANGED 1"
      ∷ asks "route @&OFFSET=0&WIDTH=1&VALUE=0" ∷ tells "OK 1"
      ∷ asks "page" ∷ tells "FORM 1 #2" ∷ tells "  1 *     1 #3                       [ ]"
      ∷ asks "route @&OFFSET=0&WIDTH=1&VALUE=FF" ∷ tells "OK 1"
      ∷ asks "submit" ∷ tells "OK 0"
      ∷ [];
  left = codes "HVS2" ++ hex "22222222222222222222222222222222 0100 0100 0200 0100";
}

routed_checkbox-holds : Holds routed_checkbox
unfolding computing
routed_checkbox-holds = record {
  stores = (1, hex "0000") ∷ [];
  opened = record { sound = refl; spelled = record { form = inr refl; laid = refl } };
  answers = refl;
  ended = refl;
  image = refl;
}

abbrev pub routed_signed_number : Case
routed_signed_number = record usual {
  list = forms_list (opening 2 ++ hexes
      ("0711 0300 0000 0100 0100 0000 00 00 fe 09 04"  -- 39 NUMERIC
      ∷ "2902 2902"  -- 4a 4c END
      ∷ []));
  image = codes "HVS1" ++ hex "0100 0100 0200 0000";
  said = asks "route @&OFFSET=0&WIDTH=1&VALUE=fe" ∷ tells "OK 1"
      ∷ asks "page" ∷ tells "FORM 1 #2" ∷ tells "  1 *     1 #3                       [-2]"
      ∷ asks "route @&OFFSET=0&WIDTH=1&VALUE=fd" ∷ tells "DENIED range at 00000039"
      ∷ asks "route @&OFFSET=0&WIDTH=1&VALUE=80" ∷ tells "DENIED range at 00000039"
      ∷ asks "route @&OFFSET=0&WIDTH=1&VALUE=a" ∷ tells "DENIED range at 00000039"
      ∷ asks "route @&OFFSET=0&WIDTH=1&VALUE=9" ∷ tells "OK 1"
      ∷ asks "page" ∷ tells "FORM 1 #2" ∷ tells "  1 *     1 #3                       [9]"
      ∷ asks "submit" ∷ tells "OK 1" ∷ tells "CHANGED 1"
      ∷ [];
  left = codes "HVS2" ++ hex "22222222222222222222222222222222 0100 0100 0200 0900";
}

routed_signed_number-holds : Holds routed_signed_number
unfolding computing
routed_signed_number-holds = record {
  stores = (1, hex "0000") ∷ [];
  opened = record { sound = refl; spelled = record { form = inr refl; laid = refl } };
  answers = refl;
  ended = refl;
  image = refl;
}

abbrev pub routed_list : Case
routed_list = record usual {
  list = forms_list (opening 3 ++ hexes
      ("238f 0300 0000 0100 0100 0000 00 03 03"  -- 39 ORDERED_LIST
      ∷ "  0907 0500 00 00 01"  -- 48 ONE_OF_OPTION
      ∷ "  0907 0600 00 00 02"  -- 4f ONE_OF_OPTION
      ∷ "  0a82"  -- 56 SUPPRESS_IF
      ∷ "    4602"  -- 58 TRUE
      ∷ "    0907 0700 00 00 03"  -- 5a ONE_OF_OPTION
      ∷ "  2902 2902 2902 2902"  -- 61 63 65 67 END
      ∷ []));
  image = codes "HVS1" ++ hex "0100 0100 0300 000000";
  said = asks "route @&OFFSET=0&WIDTH=3&VALUE=0102" ∷ tells "OK 1"
      ∷ asks "page" ∷ tells "FORM 1 #2" ∷ tells "  1 *     1 #3                       [#6, #5]"
      ∷ asks "route @&OFFSET=0&WIDTH=3&VALUE=101" ∷ tells "DENIED repeat at 00000039"
      ∷ asks "route @&OFFSET=0&WIDTH=3&VALUE=0" ∷ tells "DENIED emptyset at 00000039"
      ∷ asks "route @&OFFSET=0&WIDTH=3&VALUE=10000" ∷ tells "DENIED emptyset at 00000039"
      ∷ asks "route @&OFFSET=0&WIDTH=3&VALUE=4" ∷ tells "DENIED nooption at 00000039"
      ∷ asks "route @&OFFSET=0&WIDTH=3&VALUE=301" ∷ tells "DENIED suppressif at 00000056"
      ∷ asks "route @&OFFSET=0&WIDTH=3&VALUE=20001" ∷ tells "OK 1"
      ∷ asks "page" ∷ tells "FORM 1 #2" ∷ tells "  1 *     1 #3                       [#5]"
      ∷ asks "submit" ∷ tells "OK 1" ∷ tells "CHANGED 1"
      ∷ [];
  left = codes "HVS2" ++ hex "22222222222222222222222222222222 0100 0100 0300 010000";
}

routed_list-holds : Holds routed_list
unfolding computing
routed_list-holds = record {
  stores = (1, hex "000000") ∷ [];
  opened = record { sound = refl; spelled = record { form = inr refl; laid = refl } };
  answers = refl;
  ended = refl;
  image = refl;
}

abbrev pub routed_text : Case
routed_text = record usual {
  list = forms_list (opening 6 ++ hexes
      ("1c10 0300 0000 0100 0100 0000 00 01 03 00"  -- 39 STRING
      ∷ "2902 2902"  -- 49 4b END
      ∷ []));
  image = codes "HVS1" ++ hex "0100 0100 0600 000000000000";
  said = asks "route @&OFFSET=0&WIDTH=6&VALUE=690048" ∷ tells "OK 1"
      ∷ asks "page" ∷ tells "FORM 1 #2" ∷ tells "  1 *     1 #3                       [Hi]"
      ∷ asks "route @&OFFSET=0&WIDTH=6&VALUE=004300420041" ∷ tells "OK 1"
      ∷ asks "page" ∷ tells "FORM 1 #2" ∷ tells "  1 *     1 #3                       [ABC]"
      ∷ asks "route @&OFFSET=0&WIDTH=6&VALUE=0" ∷ tells "DENIED length at 00000039"
      ∷ asks "route @&OFFSET=0&WIDTH=6&VALUE=004300000000" ∷ tells "DENIED length at 00000039"
      ∷ asks "route @&OFFSET=0&WIDTH=6&VALUE=004200000041" ∷ tells "OK 1"
      ∷ asks "page" ∷ tells "FORM 1 #2" ∷ tells "  1 *     1 #3                       [A]"
      ∷ asks "submit" ∷ tells "OK 1" ∷ tells "CHANGED 1"
      ∷ asks "route @&OFFSET=0&WIDTH=6&VALUE=d800" ∷ tells "OK 1"
      ∷ asks "page" ∷ tells "FORM 1 #2" ∷ tells "  1 *     1 #3                       [�]"
      ∷ asks "route @&OFFSET=0&WIDTH=6&VALUE=1000000000000" ∷ tells "REFUSED 83 ValueWidth"
      ∷ [];
  left = codes "HVS2" ++ hex "22222222222222222222222222222222 0100 0100 0600 410000000000";
}

routed_text-holds : Holds routed_text
unfolding computing
routed_text-holds = record {
  stores = (1, hex "000000000000") ∷ [];
  opened = record { sound = refl; spelled = record { form = inr refl; laid = refl } };
  answers = refl;
  ended = refl;
  image = refl;
}

abbrev pub routed_password : Case
routed_password = record usual {
  list = forms_list (opening 4 ++ hexes
      ("0811 0300 0000 0100 0100 0000 00 0000 0200"  -- 39 PASSWORD
      ∷ "2902 2902"  -- 4a 4c END
      ∷ []));
  image = codes "HVS1" ++ hex "0100 0100 0400 00000000";
  said = asks "route @&OFFSET=0&WIDTH=4&VALUE=41" ∷ tells "DENIED password at 00000039"
      ∷ asks "route @&OFFSET=0&WIDTH=2&VALUE=41" ∷ tells "DENIED nofield at 00000000"
      ∷ asks "route @&OFFSET=0&WIDTH=4&VALUE=100000000" ∷ tells "REFUSED 83 ValueWidth"
      ∷ asks "submit" ∷ tells "OK 0"
      ∷ [];
  left = codes "HVS2" ++ hex "22222222222222222222222222222222 0100 0100 0400 00000000";
}

routed_password-holds : Holds routed_password
unfolding computing
routed_password-holds = record {
  stores = (1, hex "00000000") ∷ [];
  opened = record { sound = refl; spelled = record { form = inr refl; laid = refl } };
  answers = refl;
  ended = refl;
  image = refl;
}

abbrev pub fixed_password_before_a_text : Case
fixed_password_before_a_text = record usual {
  list = forms_list (opening 4 ++ hexes
      ("0811 0400 0000 0200 0100 0000 01 0000 0200"  -- 39 PASSWORD
      ∷ "1c10 0300 0000 0100 0100 0000 00 00 02 00"  -- 4a STRING
      ∷ "2902 2902"  -- 5a 5c END
      ∷ []));
  image = codes "HVS1" ++ hex "0100 0100 0400 00000000";
  said = asks "route @&OFFSET=0&WIDTH=4&VALUE=41" ∷ tells "OK 1"
      ∷ asks "submit" ∷ tells "OK 2" ∷ tells "CHANGED 2" ∷ tells "CHANGED 1"
      ∷ [];
  left = codes "HVS2" ++ hex "22222222222222222222222222222222 0100 0100 0400 41000000";
}

fixed_password_before_a_text-holds : Holds fixed_password_before_a_text
unfolding computing
fixed_password_before_a_text-holds = record {
  stores = (1, hex "00000000") ∷ [];
  opened = record { sound = refl; spelled = record { form = inr refl; laid = refl } };
  answers = refl;
  ended = refl;
  image = refl;
}

abbrev pub routed_password_that_is_fixed : Case
routed_password_that_is_fixed = record usual {
  list = forms_list (opening 4 ++ hexes
      ("0a82"  -- 39 SUPPRESS_IF
      ∷ "  4602"  -- 3b TRUE
      ∷ "  0811 0300 0000 0100 0100 0000 01 0000 0200"  -- 3d PASSWORD
      ∷ "2902 2902 2902"  -- 4e 50 52 END
      ∷ []));
  image = codes "HVS1" ++ hex "0100 0100 0400 00000000";
  said = asks "route @&OFFSET=0&WIDTH=4&VALUE=41" ∷ tells "DENIED password at 0000003d"
      ∷ [];
  left = codes "HVS2" ++ hex "22222222222222222222222222222222 0100 0100 0400 00000000";
}

routed_password_that_is_fixed-holds : Holds routed_password_that_is_fixed
unfolding computing
routed_password_that_is_fixed-holds = record {
  stores = (1, hex "00000000") ∷ [];
  opened = record { sound = refl; spelled = record { form = inr refl; laid = refl } };
  answers = refl;
  ended = refl;
  image = refl;
}

abbrev pub fixed_password_before_a_fixed_text : Case
fixed_password_before_a_fixed_text = record usual {
  list = forms_list (opening 4 ++ hexes
      ("0811 0400 0000 0200 0100 0000 01 0000 0200"  -- 39 PASSWORD
      ∷ "1c10 0300 0000 0100 0100 0000 01 00 02 00"  -- 4a STRING
      ∷ "2902 2902"  -- 5a 5c END
      ∷ []));
  image = codes "HVS1" ++ hex "0100 0100 0400 00000000";
  said = asks "route @&OFFSET=0&WIDTH=4&VALUE=41" ∷ tells "DENIED password at 00000039"
      ∷ [];
  left = codes "HVS2" ++ hex "22222222222222222222222222222222 0100 0100 0400 00000000";
}

fixed_password_before_a_fixed_text-holds : Holds fixed_password_before_a_fixed_text
unfolding computing
fixed_password_before_a_fixed_text-holds = record {
  stores = (1, hex "00000000") ∷ [];
  opened = record { sound = refl; spelled = record { form = inr refl; laid = refl } };
  answers = refl;
  ended = refl;
  image = refl;
}

abbrev pub password_behind_a_text : Case
password_behind_a_text = record usual {
  list = forms_list (opening 4 ++ hexes
      ("1c10 0300 0000 0100 0100 0000 00 00 02 00"  -- 39 STRING
      ∷ "0811 0400 0000 0200 0100 0000 00 0000 0200"  -- 49 PASSWORD
      ∷ "2902 2902"  -- 5a 5c END
      ∷ []));
  image = codes "HVS1" ++ hex "0100 0100 0400 00000000";
  said = asks "route @&OFFSET=0&WIDTH=4&VALUE=41" ∷ tells "OK 1"
      ∷ asks "submit" ∷ tells "OK 2" ∷ tells "CHANGED 1" ∷ tells "CHANGED 2"
      ∷ [];
  left = codes "HVS2" ++ hex "22222222222222222222222222222222 0100 0100 0400 41000000";
}

password_behind_a_text-holds : Holds password_behind_a_text
unfolding computing
password_behind_a_text-holds = record {
  stores = (1, hex "00000000") ∷ [];
  opened = record { sound = refl; spelled = record { form = inr refl; laid = refl } };
  answers = refl;
  ended = refl;
  image = refl;
}

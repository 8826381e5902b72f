-- Worked cases of what is refused, as tests/rule_cases writes them.
use Rattle.std.proofs.Common.{refl}
use Rattle.std.specs.Prelude.{[], ◌∷◌, ◌++◌, codes}
use Rattle.browser_rules.proofs.CaseWords.{hex, hexes, times, packed, package_list, forms_list, opening, Refusal, IsRefusal, refuses}
use Rattle.browser_rules.proofs.cases.Computing.{computing}
use Rattle.browser_rules.specs.Words.{AfterEnd, AfterFormSet, DuplicateForm, DuplicateQuestion, DuplicateVarstore, EndExtra, ExprDepth, ExprShape, FieldOutside, LanguageText, ListLength, ListShort, Misplaced, MixedOptions, NoEnd, NoForm, NoForms, NotFormSet, OpLength, OpOutside, OpSize, OptionRange, PackageLength, RuleTooLarge, ScopeBit, ScopeOpen, StoreCount, StoreFormSet, StoreId, StoreMagic, StoreShort, StoreSize, StoreTrailing, StringBlock, StringHeader, StringText, TooDeep, UnknownVarstore}

-- ---- the list

abbrev pub empty_list : Refusal
empty_list = record {
  list = [];
  number = 1;
  image = codes "HVS1" ++ hex "0100 0100 0200 0000";
  line = "REFUSED 1 ListShort at 00000000\n";
}

empty_list-holds : IsRefusal empty_list
unfolding computing
empty_list-holds = refuses empty_list (record { cause = ListShort; place = 0x0 }) refl refl

abbrev pub list_without_its_last_byte : Refusal
list_without_its_last_byte = record {
  list = hexes
      ("11111111111111111111111111111111"
      ∷ "63000000"  -- how long the list is
      ∷ "4b0000 02"  -- a forms package
      ∷ [])
      ++ opening 2
      ++ hexes
      ("060e 0300 0000 0100 0100 0000 00 00"  -- 39 CHECKBOX
      ∷ "2902 2902"  -- 47 49 END
      ∷ "040000"
      ∷ []);
  number = 1;
  image = codes "HVS1" ++ hex "0100 0100 0200 0000";
  line = "REFUSED 2 ListLength at 00000010\n";
}

list_without_its_last_byte-holds : IsRefusal list_without_its_last_byte
unfolding computing
list_without_its_last_byte-holds =
    refuses list_without_its_last_byte (record { cause = ListLength; place = 0x10 }) refl refl

abbrev pub length_told_too_small : Refusal
length_told_too_small = record {
  list = hexes
      ("11111111111111111111111111111111"
      ∷ "13000000"  -- how long the list is
      ∷ "4b0000 02"  -- a forms package
      ∷ [])
      ++ opening 2
      ++ hexes
      ("060e 0300 0000 0100 0100 0000 00 00"  -- 39 CHECKBOX
      ∷ "2902 2902"  -- 47 49 END
      ∷ "040000 df"  -- the end package
      ∷ []);
  number = 1;
  image = codes "HVS1" ++ hex "0100 0100 0200 0000";
  line = "REFUSED 2 ListLength at 00000010\n";
}

length_told_too_small-holds : IsRefusal length_told_too_small
unfolding computing
length_told_too_small-holds = refuses length_told_too_small (record { cause = ListLength; place = 0x10 }) refl refl

abbrev pub package_of_three_bytes : Refusal
package_of_three_bytes = record {
  list = hexes
      ("11111111111111111111111111111111"
      ∷ "63000000"  -- how long the list is
      ∷ "030000 02"  -- a forms package
      ∷ [])
      ++ opening 2
      ++ hexes
      ("060e 0300 0000 0100 0100 0000 00 00"  -- 39 CHECKBOX
      ∷ "2902 2902"  -- 47 49 END
      ∷ "040000df"
      ∷ []);
  number = 1;
  image = codes "HVS1" ++ hex "0100 0100 0200 0000";
  line = "REFUSED 3 PackageLength at 00000014\n";
}

package_of_three_bytes-holds : IsRefusal package_of_three_bytes
unfolding computing
package_of_three_bytes-holds = refuses package_of_three_bytes (record { cause = PackageLength; place = 0x14 }) refl refl

abbrev pub end_package_of_five_bytes : Refusal
end_package_of_five_bytes = record {
  list = hexes
      ("11111111111111111111111111111111"
      ∷ "64000000"  -- how long the list is
      ∷ "4b0000 02"  -- a forms package
      ∷ [])
      ++ opening 2
      ++ hexes
      ("060e 0300 0000 0100 0100 0000 00 00"  -- 39 CHECKBOX
      ∷ "2902 2902"  -- 47 49 END
      ∷ "050000 df"  -- the end package
      ∷ "00"
      ∷ []);
  number = 1;
  image = codes "HVS1" ++ hex "0100 0100 0200 0000";
  line = "REFUSED 3 PackageLength at 0000005f\n";
}

end_package_of_five_bytes-holds : IsRefusal end_package_of_five_bytes
unfolding computing
end_package_of_five_bytes-holds =
    refuses end_package_of_five_bytes (record { cause = PackageLength; place = 0x5f }) refl refl

abbrev pub end_package_without_its_last_byte : Refusal
end_package_without_its_last_byte = record {
  list = hexes
      ("11111111111111111111111111111111"
      ∷ "62000000"  -- how long the list is
      ∷ "4b0000 02"  -- a forms package
      ∷ [])
      ++ opening 2
      ++ hexes
      ("060e 0300 0000 0100 0100 0000 00 00"  -- 39 CHECKBOX
      ∷ "2902 2902"  -- 47 49 END
      ∷ "040000"
      ∷ []);
  number = 1;
  image = codes "HVS1" ++ hex "0100 0100 0200 0000";
  line = "REFUSED 3 PackageLength at 0000005f\n";
}

end_package_without_its_last_byte-holds : IsRefusal end_package_without_its_last_byte
unfolding computing
end_package_without_its_last_byte-holds =
    refuses end_package_without_its_last_byte (record { cause = PackageLength; place = 0x5f }) refl refl

abbrev pub no_end_package : Refusal
no_end_package = record {
  list = hexes
      ("11111111111111111111111111111111"
      ∷ "5f000000"  -- how long the list is
      ∷ "4b0000 02"  -- a forms package
      ∷ [])
      ++ opening 2
      ++ hexes
      ("060e 0300 0000 0100 0100 0000 00 00"  -- 39 CHECKBOX
      ∷ "2902 2902"  -- 47 49 END
      ∷ []);
  number = 1;
  image = codes "HVS1" ++ hex "0100 0100 0200 0000";
  line = "REFUSED 4 NoEnd at 0000005f\n";
}

no_end_package-holds : IsRefusal no_end_package
unfolding computing
no_end_package-holds = refuses no_end_package (record { cause = NoEnd; place = 0x5f }) refl refl

abbrev pub bytes_behind_the_end_package : Refusal
bytes_behind_the_end_package = record {
  list = hexes
      ("11111111111111111111111111111111"
      ∷ "64000000"  -- how long the list is
      ∷ "4b0000 02"  -- a forms package
      ∷ [])
      ++ opening 2
      ++ hexes
      ("060e 0300 0000 0100 0100 0000 00 00"  -- 39 CHECKBOX
      ∷ "2902 2902"  -- 47 49 END
      ∷ "040000 df"  -- the end package
      ∷ "00"
      ∷ []);
  number = 1;
  image = codes "HVS1" ++ hex "0100 0100 0200 0000";
  line = "REFUSED 5 AfterEnd at 00000063\n";
}

bytes_behind_the_end_package-holds : IsRefusal bytes_behind_the_end_package
unfolding computing
bytes_behind_the_end_package-holds =
    refuses bytes_behind_the_end_package (record { cause = AfterEnd; place = 0x63 }) refl refl

abbrev pub no_forms_package : Refusal
no_forms_package = record {
  list = package_list ([]);
  number = 1;
  image = codes "HVS1" ++ hex "0100 0100 0200 0000";
  line = "REFUSED 6 NoForms at 00000000\n";
}

no_forms_package-holds : IsRefusal no_forms_package
unfolding computing
no_forms_package-holds = refuses no_forms_package (record { cause = NoForms; place = 0x0 }) refl refl

abbrev pub no_second_forms_package : Refusal
no_second_forms_package = record {
  list = forms_list (opening 2 ++ hexes
      ("060e 0300 0000 0100 0100 0000 00 00"  -- 39 CHECKBOX
      ∷ "2902 2902"  -- 47 49 END
      ∷ []));
  number = 2;
  image = codes "HVS1" ++ hex "0100 0100 0200 0000";
  line = "REFUSED 6 NoForms at 00000000\n";
}

no_second_forms_package-holds : IsRefusal no_second_forms_package
unfolding computing
no_second_forms_package-holds = refuses no_second_forms_package (record { cause = NoForms; place = 0x0 }) refl refl

abbrev pub wrong_strings_come_after_the_number : Refusal
wrong_strings_come_after_the_number = record {
  list = package_list (packed 4 (hexes
      ("2e000000 34000000"  -- where the texts begin
      ∷ "0000000000000000000000000000000000000000000000000000000000000000"
      ∷ "0100"
      ∷ "656e2d555300"  -- en-US
      ∷ "1000"
      ∷ []))
      ++ packed 2 (opening 2 ++ hexes
      ("060e 0300 0000 0100 0100 0000 00 00"  -- 39 CHECKBOX
      ∷ "2902 2902"  -- 47 49 END
      ∷ [])));
  number = 2;
  image = codes "HVS1" ++ hex "0100 0100 0200 0000";
  line = "REFUSED 6 NoForms at 00000000\n";
}

wrong_strings_come_after_the_number-holds : IsRefusal wrong_strings_come_after_the_number
unfolding computing
wrong_strings_come_after_the_number-holds =
    refuses wrong_strings_come_after_the_number (record { cause = NoForms; place = 0x0 }) refl refl

-- ---- string packages

abbrev pub strings_of_45_bytes : Refusal
strings_of_45_bytes = record {
  list = package_list (packed 4 (hexes
      ("2e000000 34000000"  -- where the texts begin
      ∷ "0000000000000000000000000000000000000000000000000000000000000000"
      ∷ "01"
      ∷ []))
      ++ packed 2 (opening 2 ++ hexes
      ("060e 0600 0000 0400 0100 0000 00 00"  -- 39 CHECKBOX
      ∷ "2902 2902"  -- 47 49 END
      ∷ [])));
  number = 1;
  image = codes "HVS1" ++ hex "0100 0100 0200 0000";
  line = "REFUSED 7 StringHeader at 00000014\n";
}

strings_of_45_bytes-holds : IsRefusal strings_of_45_bytes
unfolding computing
strings_of_45_bytes-holds = refuses strings_of_45_bytes (record { cause = StringHeader; place = 0x14 }) refl refl

abbrev pub strings_blocks_outside : Refusal
strings_blocks_outside = record {
  list = package_list (packed 4 (hexes
      ("2e000000 63000000"  -- where the texts begin
      ∷ "0000000000000000000000000000000000000000000000000000000000000000"
      ∷ "0100"
      ∷ "656e2d555300144100000020010000"
      ∷ []))
      ++ packed 2 (opening 2 ++ hexes
      ("060e 0300 0000 0100 0100 0000 00 00"  -- 39 CHECKBOX
      ∷ "2902 2902"  -- 47 49 END
      ∷ [])));
  number = 1;
  image = codes "HVS1" ++ hex "0100 0100 0200 0000";
  line = "REFUSED 7 StringHeader at 00000014\n";
}

strings_blocks_outside-holds : IsRefusal strings_blocks_outside
unfolding computing
strings_blocks_outside-holds = refuses strings_blocks_outside (record { cause = StringHeader; place = 0x14 }) refl refl

abbrev pub strings_begin_in_their_language : Refusal
strings_begin_in_their_language = record {
  list = package_list (packed 4 (hexes
      ("2e000000 33000000"  -- where the texts begin
      ∷ "0000000000000000000000000000000000000000000000000000000000000000"
      ∷ "0100"
      ∷ "656e2d5553"  -- en-US
      ∷ "00"  -- the end of texts
      ∷ "14 4100 0000"  -- 1: A
      ∷ "22 03"  -- 2 to 4: none
      ∷ "14 00d8f1ff4200 0000"  -- 5: <d800><fff1>B
      ∷ "20 0100"  -- 6: the text of 1
      ∷ "20 0900"  -- 7: the text of 9
      ∷ "00"  -- the end of texts
      ∷ []))
      ++ packed 2 (opening 2 ++ hexes
      ("060e 0600 0000 0400 0100 0000 00 00"  -- 39 CHECKBOX
      ∷ "2902 2902"  -- 47 49 END
      ∷ [])));
  number = 1;
  image = codes "HVS1" ++ hex "0100 0100 0200 0000";
  line = "REFUSED 10 LanguageText at 00000042\n";
}

strings_begin_in_their_language-holds : IsRefusal strings_begin_in_their_language
unfolding computing
strings_begin_in_their_language-holds =
    refuses strings_begin_in_their_language (record { cause = LanguageText; place = 0x42 }) refl refl

abbrev pub strings_language_that_is_not_ascii : Refusal
strings_language_that_is_not_ascii = record {
  list = package_list (packed 4 (hexes
      ("2e000000 30000000"  -- where the texts begin
      ∷ "0000000000000000000000000000000000000000000000000000000000000000"
      ∷ "0100"
      ∷ "7f00"  -- <7f>
      ∷ "14 4100 0000"  -- 1: A
      ∷ "20 0100"  -- 2: the text of 1
      ∷ "00"  -- the end of texts
      ∷ []))
      ++ packed 2 (opening 2 ++ hexes
      ("060e 0300 0000 0100 0100 0000 00 00"  -- 39 CHECKBOX
      ∷ "2902 2902"  -- 47 49 END
      ∷ [])));
  number = 1;
  image = codes "HVS1" ++ hex "0100 0100 0200 0000";
  line = "REFUSED 10 LanguageText at 00000042\n";
}

strings_language_that_is_not_ascii-holds : IsRefusal strings_language_that_is_not_ascii
unfolding computing
strings_language_that_is_not_ascii-holds =
    refuses strings_language_that_is_not_ascii (record { cause = LanguageText; place = 0x42 }) refl refl

abbrev pub strings_first_block_is_compressed : Refusal
strings_first_block_is_compressed = record {
  list = package_list (packed 4 (hexes
      ("2e000000 34000000"  -- where the texts begin
      ∷ "0000000000000000000000000000000000000000000000000000000000000000"
      ∷ "0100"
      ∷ "656e2d555300"  -- en-US
      ∷ "104100000022031400d8f1ff4200000020010020090000"
      ∷ []))
      ++ packed 2 (opening 2 ++ hexes
      ("060e 0600 0000 0400 0100 0000 00 00"  -- 39 CHECKBOX
      ∷ "2902 2902"  -- 47 49 END
      ∷ [])));
  number = 1;
  image = codes "HVS1" ++ hex "0100 0100 0200 0000";
  line = "REFUSED 8 StringBlock at 00000048\n";
}

strings_first_block_is_compressed-holds : IsRefusal strings_first_block_is_compressed
unfolding computing
strings_first_block_is_compressed-holds =
    refuses strings_first_block_is_compressed (record { cause = StringBlock; place = 0x48 }) refl refl

abbrev pub strings_without_their_last_byte : Refusal
strings_without_their_last_byte = record {
  list = package_list (packed 4 (hexes
      ("2e000000 34000000"  -- where the texts begin
      ∷ "0000000000000000000000000000000000000000000000000000000000000000"
      ∷ "0100"
      ∷ "656e2d555300"  -- en-US
      ∷ "14 4100 0000"  -- 1: A
      ∷ "22 03"  -- 2 to 4: none
      ∷ "14 00d8f1ff4200 0000"  -- 5: <d800><fff1>B
      ∷ "20 0100"  -- 6: the text of 1
      ∷ "20 0900"  -- 7: the text of 9
      ∷ []))
      ++ packed 2 (opening 2 ++ hexes
      ("060e 0600 0000 0400 0100 0000 00 00"  -- 39 CHECKBOX
      ∷ "2902 2902"  -- 47 49 END
      ∷ [])));
  number = 1;
  image = codes "HVS1" ++ hex "0100 0100 0200 0000";
  line = "REFUSED 8 StringBlock at 0000005e\n";
}

strings_without_their_last_byte-holds : IsRefusal strings_without_their_last_byte
unfolding computing
strings_without_their_last_byte-holds =
    refuses strings_without_their_last_byte (record { cause = StringBlock; place = 0x5e }) refl refl

abbrev pub strings_of_one_text_that_is_cut : Refusal
strings_of_one_text_that_is_cut = record {
  list = package_list (packed 4 (hexes
      ("2e000000 34000000"  -- where the texts begin
      ∷ "0000000000000000000000000000000000000000000000000000000000000000"
      ∷ "0100"
      ∷ "656e2d555300"  -- en-US
      ∷ "144100"
      ∷ []))
      ++ packed 2 (opening 2 ++ hexes
      ("060e 0600 0000 0400 0100 0000 00 00"  -- 39 CHECKBOX
      ∷ "2902 2902"  -- 47 49 END
      ∷ [])));
  number = 1;
  image = codes "HVS1" ++ hex "0100 0100 0200 0000";
  line = "REFUSED 9 StringText at 00000048\n";
}

strings_of_one_text_that_is_cut-holds : IsRefusal strings_of_one_text_that_is_cut
unfolding computing
strings_of_one_text_that_is_cut-holds =
    refuses strings_of_one_text_that_is_cut (record { cause = StringText; place = 0x48 }) refl refl

abbrev pub second_string_package_is_wrong : Refusal
second_string_package_is_wrong = record {
  list = package_list (packed 4 (hexes
      ("2e000000 31000000"  -- where the texts begin
      ∷ "0000000000000000000000000000000000000000000000000000000000000000"
      ∷ "0100"
      ∷ "667200"  -- fr
      ∷ "14 4100 0000"  -- 1: A
      ∷ "20 0100"  -- 2: the text of 1
      ∷ "00"  -- the end of texts
      ∷ []))
      ++ packed 4 (hexes
      ("2e000000 34000000"  -- where the texts begin
      ∷ "0000000000000000000000000000000000000000000000000000000000000000"
      ∷ "0100"
      ∷ "656e2d555300"  -- en-US
      ∷ "1000"
      ∷ []))
      ++ packed 2 (opening 2 ++ hexes
      ("060e 0300 0000 0100 0100 0000 00 00"  -- 39 CHECKBOX
      ∷ "2902 2902"  -- 47 49 END
      ∷ [])));
  number = 1;
  image = codes "HVS1" ++ hex "0100 0100 0200 0000";
  line = "REFUSED 8 StringBlock at 00000082\n";
}

second_string_package_is_wrong-holds : IsRefusal second_string_package_is_wrong
unfolding computing
second_string_package_is_wrong-holds =
    refuses second_string_package_is_wrong (record { cause = StringBlock; place = 0x82 }) refl refl

abbrev pub wrong_strings_come_before_opcodes : Refusal
wrong_strings_come_before_opcodes = record {
  list = package_list (packed 2 (hex "0601") ++ packed 4 (hexes
      ("2e000000 34000000"  -- where the texts begin
      ∷ "0000000000000000000000000000000000000000000000000000000000000000"
      ∷ "0100"
      ∷ "656e2d555300"  -- en-US
      ∷ "1000"
      ∷ [])));
  number = 1;
  image = codes "HVS1" ++ hex "0100 0100 0200 0000";
  line = "REFUSED 8 StringBlock at 0000004e\n";
}

wrong_strings_come_before_opcodes-holds : IsRefusal wrong_strings_come_before_opcodes
unfolding computing
wrong_strings_come_before_opcodes-holds =
    refuses wrong_strings_come_before_opcodes (record { cause = StringBlock; place = 0x4e }) refl refl

-- ---- opcodes

abbrev pub opcode_of_one_byte : Refusal
opcode_of_one_byte = record {
  list = forms_list (opening 2 ++ hex "060103000000010001000000000029022902");
  number = 1;
  image = codes "HVS1" ++ hex "0100 0100 0200 0000";
  line = "REFUSED 20 OpLength at 00000039\n";
}

opcode_of_one_byte-holds : IsRefusal opcode_of_one_byte
unfolding computing
opcode_of_one_byte-holds = refuses opcode_of_one_byte (record { cause = OpLength; place = 0x39 }) refl refl

abbrev pub end_with_a_scope : Refusal
end_with_a_scope = record {
  list = forms_list (opening 2 ++ hexes
      ("060e 0300 0000 0100 0100 0000 00 00"  -- 39 CHECKBOX
      ∷ "2982"  -- 47 an opcode that is not known
      ∷ "2902"  -- 49 END
      ∷ []));
  number = 1;
  image = codes "HVS1" ++ hex "0100 0100 0200 0000";
  line = "REFUSED 20 OpLength at 00000047\n";
}

end_with_a_scope-holds : IsRefusal end_with_a_scope
unfolding computing
end_with_a_scope-holds = refuses end_with_a_scope (record { cause = OpLength; place = 0x47 }) refl refl

abbrev pub one_end_too_many : Refusal
one_end_too_many = record {
  list = forms_list (opening 2 ++ hexes
      ("060e 0300 0000 0100 0100 0000 00 00"  -- 39 CHECKBOX
      ∷ "2902 2902 2902"  -- 47 49 4b END
      ∷ []));
  number = 1;
  image = codes "HVS1" ++ hex "0100 0100 0200 0000";
  line = "REFUSED 21 EndExtra at 0000004b\n";
}

one_end_too_many-holds : IsRefusal one_end_too_many
unfolding computing
one_end_too_many-holds = refuses one_end_too_many (record { cause = EndExtra; place = 0x4b }) refl refl

abbrev pub one_end_too_few : Refusal
one_end_too_few = record {
  list = forms_list (opening 2 ++ hexes
      ("060e 0300 0000 0100 0100 0000 00 00"  -- 39 CHECKBOX
      ∷ "2902"  -- 47 END
      ∷ []));
  number = 1;
  image = codes "HVS1" ++ hex "0100 0100 0200 0000";
  line = "REFUSED 22 ScopeOpen at 00000049\n";
}

one_end_too_few-holds : IsRefusal one_end_too_few
unfolding computing
one_end_too_few-holds = refuses one_end_too_few (record { cause = ScopeOpen; place = 0x49 }) refl refl

abbrev pub sixty_three_guards : Refusal
sixty_three_guards = record {
  list = forms_list (opening 2 ++ times 63 (hexes
      ("0a82"  -- 39 SUPPRESS_IF
      ∷ "4702"  -- 3b FALSE
      ∷ []))
      ++ hexes
      (""  -- 135 CHECKBOX
      ∷ "                                      060e 0300 0000 0100 0100 0000 00 00"
      ∷ [])
      ++ times 65 (hexes
      ("2902"  -- 143 END
      ∷ [])));
  number = 1;
  image = codes "HVS1" ++ hex "0100 0100 0200 0000";
  line = "REFUSED 23 TooDeep at 00000131\n";
}

sixty_three_guards-holds : IsRefusal sixty_three_guards
unfolding computing
sixty_three_guards-holds = refuses sixty_three_guards (record { cause = TooDeep; place = 0x131 }) refl refl

abbrev pub first_opcode_is_no_form_set : Refusal
first_opcode_is_no_form_set = record {
  list = forms_list (hexes
      ("5f02"  -- 4 GUID
      ∷ "0e97 22222222222222222222222222222222 0100 0000 00"  -- 6 FORM_SET
      ∷ "  2418 33333333333333333333333333333333 0100 0200 5600"  -- 1d VARSTORE
      ∷ "  0186 0100 0200"  -- 35 FORM
      ∷ "    060e 0300 0000 0100 0100 0000 00 00"  -- 3b CHECKBOX
      ∷ "  2902 2902"  -- 49 4b END
      ∷ []));
  number = 1;
  image = codes "HVS1" ++ hex "0100 0100 0200 0000";
  line = "REFUSED 24 NotFormSet at 00000004\n";
}

first_opcode_is_no_form_set-holds : IsRefusal first_opcode_is_no_form_set
unfolding computing
first_opcode_is_no_form_set-holds =
    refuses first_opcode_is_no_form_set (record { cause = NotFormSet; place = 0x4 }) refl refl

abbrev pub locked_behind_the_form_set : Refusal
locked_behind_the_form_set = record {
  list = forms_list (opening 2 ++ hexes
      ("060e 0300 0000 0100 0100 0000 00 00"  -- 39 CHECKBOX
      ∷ "2902 2902"  -- 47 49 END
      ∷ "0b02"  -- 4b LOCKED
      ∷ []));
  number = 1;
  image = codes "HVS1" ++ hex "0100 0100 0200 0000";
  line = "REFUSED 25 AfterFormSet at 0000004b\n";
}

locked_behind_the_form_set-holds : IsRefusal locked_behind_the_form_set
unfolding computing
locked_behind_the_form_set-holds =
    refuses locked_behind_the_form_set (record { cause = AfterFormSet; place = 0x4b }) refl refl

abbrev pub opcode_that_is_not_browsed : Refusal
opcode_that_is_not_browsed = record {
  list = forms_list (opening 2 ++ hexes
      ("6402"  -- 39 an opcode that is not known
      ∷ "060e 0300 0000 0100 0100 0000 00 00"  -- 3b CHECKBOX
      ∷ "2902 2902"  -- 49 4b END
      ∷ []));
  number = 1;
  image = codes "HVS1" ++ hex "0100 0100 0200 0000";
  line = "REFUSED 26 OpOutside at 00000039\n";
}

opcode_that_is_not_browsed-holds : IsRefusal opcode_that_is_not_browsed
unfolding computing
opcode_that_is_not_browsed-holds =
    refuses opcode_that_is_not_browsed (record { cause = OpOutside; place = 0x39 }) refl refl

abbrev pub guid_with_a_scope : Refusal
guid_with_a_scope = record {
  list = forms_list (opening 2 ++ hexes
      ("5f92 00000000000000000000000000000000"  -- 39 GUID
      ∷ "2902"  -- 4b END
      ∷ "060e 0300 0000 0100 0100 0000 00 00"  -- 4d CHECKBOX
      ∷ "2902 2902"  -- 5b 5d END
      ∷ []));
  number = 1;
  image = codes "HVS1" ++ hex "0100 0100 0200 0000";
  line = "REFUSED 26 OpOutside at 00000039\n";
}

guid_with_a_scope-holds : IsRefusal guid_with_a_scope
unfolding computing
guid_with_a_scope-holds = refuses guid_with_a_scope (record { cause = OpOutside; place = 0x39 }) refl refl

abbrev pub efi_store_of_24_bytes : Refusal
efi_store_of_24_bytes = record {
  list = forms_list (hexes
      ("0e97 22222222222222222222222222222222 0100 0000 00"  -- 4 FORM_SET
      ∷ "  2418 33333333333333333333333333333333 0100 0200 5600"  -- 1b VARSTORE
      ∷ "  2618 0900 33333333333333333333333333333333 07000000"  -- 33 VARSTORE_EFI
      ∷ "  0186 0100 0200"  -- 4b FORM
      ∷ "    060e 0300 0000 0100 0100 0000 00 00"  -- 51 CHECKBOX
      ∷ "  2902 2902"  -- 5f 61 END
      ∷ []));
  number = 1;
  image = codes "HVS1" ++ hex "0100 0100 0200 0000";
  line = "REFUSED 26 OpOutside at 00000033\n";
}

efi_store_of_24_bytes-holds : IsRefusal efi_store_of_24_bytes
unfolding computing
efi_store_of_24_bytes-holds = refuses efi_store_of_24_bytes (record { cause = OpOutside; place = 0x33 }) refl refl

abbrev pub efi_store_of_26_bytes : Refusal
efi_store_of_26_bytes = record {
  list = forms_list (hexes
      ("0e97 22222222222222222222222222222222 0100 0000 00"  -- 4 FORM_SET
      ∷ "  2418 33333333333333333333333333333333 0100 0200 5600"  -- 1b VARSTORE
      ∷ "  261a 0900 33333333333333333333333333333333 07000000 0200"  -- 33 VARSTORE_EFI
      ∷ "  0186 0100 0200"  -- 4d FORM
      ∷ "    060e 0300 0000 0100 0100 0000 00 00"  -- 53 CHECKBOX
      ∷ "  2902 2902"  -- 61 63 END
      ∷ []));
  number = 1;
  image = codes "HVS1" ++ hex "0100 0100 0200 0000";
  line = "REFUSED 27 OpSize at 00000033\n";
}

efi_store_of_26_bytes-holds : IsRefusal efi_store_of_26_bytes
unfolding computing
efi_store_of_26_bytes-holds = refuses efi_store_of_26_bytes (record { cause = OpSize; place = 0x33 }) refl refl

abbrev pub option_of_a_string : Refusal
option_of_a_string = record {
  list = forms_list (opening 2 ++ hexes
      ("0591 0400 0000 0200 0100 0100 00 10 00 00 04"  -- 39 ONE_OF
      ∷ "  0908 0500 00 07 0100"  -- 4a ONE_OF_OPTION
      ∷ "2902"  -- 52 END
      ∷ "060e 0300 0000 0100 0100 0000 00 00"  -- 54 CHECKBOX
      ∷ "2902 2902"  -- 62 64 END
      ∷ []));
  number = 1;
  image = codes "HVS1" ++ hex "0100 0100 0200 0000";
  line = "REFUSED 26 OpOutside at 0000004a\n";
}

option_of_a_string-holds : IsRefusal option_of_a_string
unfolding computing
option_of_a_string-holds = refuses option_of_a_string (record { cause = OpOutside; place = 0x4a }) refl refl

abbrev pub checkbox_too_short : Refusal
checkbox_too_short = record {
  list = forms_list (opening 2 ++ hexes
      ("060d 0300 0000 0100 0100 0000 00"  -- 39 CHECKBOX
      ∷ "2902 2902"  -- 46 48 END
      ∷ []));
  number = 1;
  image = codes "HVS1" ++ hex "0100 0100 0200 0000";
  line = "REFUSED 27 OpSize at 00000039\n";
}

checkbox_too_short-holds : IsRefusal checkbox_too_short
unfolding computing
checkbox_too_short-holds = refuses checkbox_too_short (record { cause = OpSize; place = 0x39 }) refl refl

abbrev pub numeric_of_two_bytes_too_short : Refusal
numeric_of_two_bytes_too_short = record {
  list = forms_list (opening 2 ++ hexes
      ("0713 0400 0000 0200 0100 0100 00 11 0000 0900 04"  -- 39 NUMERIC
      ∷ "060e 0300 0000 0100 0100 0000 00 00"  -- 4c CHECKBOX
      ∷ "2902 2902"  -- 5a 5c END
      ∷ []));
  number = 1;
  image = codes "HVS1" ++ hex "0100 0100 0200 0000";
  line = "REFUSED 27 OpSize at 00000039\n";
}

numeric_of_two_bytes_too_short-holds : IsRefusal numeric_of_two_bytes_too_short
unfolding computing
numeric_of_two_bytes_too_short-holds =
    refuses numeric_of_two_bytes_too_short (record { cause = OpSize; place = 0x39 }) refl refl

abbrev pub operand_too_short : Refusal
operand_too_short = record {
  list = forms_list (opening 2 ++ hexes
      ("0a82"  -- 39 SUPPRESS_IF
      ∷ "  4283 01"  -- 3b UINT8
      ∷ "    4202"  -- 3e UINT8
      ∷ "  2902 2902"  -- 40 42 END
      ∷ "060e 0300 0000 0100 0100 0000 00 00"  -- 44 CHECKBOX
      ∷ "2902 2902"  -- 52 54 END
      ∷ []));
  number = 1;
  image = codes "HVS1" ++ hex "0100 0100 0200 0000";
  line = "REFUSED 27 OpSize at 0000003e\n";
}

operand_too_short-holds : IsRefusal operand_too_short
unfolding computing
operand_too_short-holds = refuses operand_too_short (record { cause = OpSize; place = 0x3e }) refl refl

-- ---- what stands where

abbrev pub option_in_place_of_a_question : Refusal
option_in_place_of_a_question = record {
  list = forms_list (opening 2 ++ hexes
      ("0907 0500 10 00 01"  -- 39 ONE_OF_OPTION
      ∷ "2902 2902"  -- 40 42 END
      ∷ []));
  number = 1;
  image = codes "HVS1" ++ hex "0100 0100 0200 0000";
  line = "REFUSED 28 Misplaced at 00000039\n";
}

option_in_place_of_a_question-holds : IsRefusal option_in_place_of_a_question
unfolding computing
option_in_place_of_a_question-holds =
    refuses option_in_place_of_a_question (record { cause = Misplaced; place = 0x39 }) refl refl

abbrev pub form_inside_a_form : Refusal
form_inside_a_form = record {
  list = forms_list (opening 2 ++ hexes
      ("0186 0200 0200"  -- 39 FORM
      ∷ "  060e 0300 0000 0100 0100 0000 00 00"  -- 3f CHECKBOX
      ∷ "2902 2902 2902"  -- 4d 4f 51 END
      ∷ []));
  number = 1;
  image = codes "HVS1" ++ hex "0100 0100 0200 0000";
  line = "REFUSED 28 Misplaced at 00000039\n";
}

form_inside_a_form-holds : IsRefusal form_inside_a_form
unfolding computing
form_inside_a_form-holds = refuses form_inside_a_form (record { cause = Misplaced; place = 0x39 }) refl refl

abbrev pub warning_if_before_a_question : Refusal
warning_if_before_a_question = record {
  list = forms_list (opening 2 ++ hexes
      ("6385 0900 00"  -- 39 WARNING_IF
      ∷ "  1206 0100 0100"  -- 3e EQ_ID_VAL
      ∷ "2902"  -- 44 END
      ∷ "060e 0300 0000 0100 0100 0000 00 00"  -- 46 CHECKBOX
      ∷ "2902 2902"  -- 54 56 END
      ∷ []));
  number = 1;
  image = codes "HVS1" ++ hex "0100 0100 0200 0000";
  line = "REFUSED 28 Misplaced at 00000039\n";
}

warning_if_before_a_question-holds : IsRefusal warning_if_before_a_question
unfolding computing
warning_if_before_a_question-holds =
    refuses warning_if_before_a_question (record { cause = Misplaced; place = 0x39 }) refl refl

abbrev pub locked_in_an_option : Refusal
locked_in_an_option = record {
  list = forms_list (opening 2 ++ hexes
      ("0591 0400 0000 0200 0100 0100 00 10 00 00 04"  -- 39 ONE_OF
      ∷ "  0987 0500 00 00 01"  -- 4a ONE_OF_OPTION
      ∷ "    0b02"  -- 51 LOCKED
      ∷ "  2902 2902"  -- 53 55 END
      ∷ "060e 0300 0000 0100 0100 0000 00 00"  -- 57 CHECKBOX
      ∷ "2902 2902"  -- 65 67 END
      ∷ []));
  number = 1;
  image = codes "HVS1" ++ hex "0100 0100 0200 0000";
  line = "REFUSED 28 Misplaced at 00000051\n";
}

locked_in_an_option-holds : IsRefusal locked_in_an_option
unfolding computing
locked_in_an_option-holds = refuses locked_in_an_option (record { cause = Misplaced; place = 0x51 }) refl refl

abbrev pub guard_in_a_checkbox : Refusal
guard_in_a_checkbox = record {
  list = forms_list (opening 2 ++ hexes
      ("068e 0400 0000 0200 0100 0100 00 00"  -- 39 CHECKBOX
      ∷ "  0a82"  -- 47 SUPPRESS_IF
      ∷ "    4602"  -- 49 TRUE
      ∷ "  2902 2902"  -- 4b 4d END
      ∷ "060e 0300 0000 0100 0100 0000 00 00"  -- 4f CHECKBOX
      ∷ "2902 2902"  -- 5d 5f END
      ∷ []));
  number = 1;
  image = codes "HVS1" ++ hex "0100 0100 0200 0000";
  line = "REFUSED 28 Misplaced at 00000047\n";
}

guard_in_a_checkbox-holds : IsRefusal guard_in_a_checkbox
unfolding computing
guard_in_a_checkbox-holds = refuses guard_in_a_checkbox (record { cause = Misplaced; place = 0x47 }) refl refl

abbrev pub default_among_guarded_options : Refusal
default_among_guarded_options = record {
  list = forms_list (opening 2 ++ hexes
      ("0591 0400 0000 0200 0100 0100 00 10 00 00 04"  -- 39 ONE_OF
      ∷ "  0a82"  -- 4a SUPPRESS_IF
      ∷ "    4602"  -- 4c TRUE
      ∷ "    5b06 0000 00 01"  -- 4e DEFAULT
      ∷ "  2902 2902"  -- 54 56 END
      ∷ "060e 0300 0000 0100 0100 0000 00 00"  -- 58 CHECKBOX
      ∷ "2902 2902"  -- 66 68 END
      ∷ []));
  number = 1;
  image = codes "HVS1" ++ hex "0100 0100 0200 0000";
  line = "REFUSED 28 Misplaced at 0000004e\n";
}

default_among_guarded_options-holds : IsRefusal default_among_guarded_options
unfolding computing
default_among_guarded_options-holds =
    refuses default_among_guarded_options (record { cause = Misplaced; place = 0x4e }) refl refl

abbrev pub second_condition : Refusal
second_condition = record {
  list = forms_list (opening 2 ++ hexes
      ("0a82"  -- 39 SUPPRESS_IF
      ∷ "  4602"  -- 3b TRUE
      ∷ "  4702"  -- 3d FALSE
      ∷ "2902"  -- 3f END
      ∷ "060e 0300 0000 0100 0100 0000 00 00"  -- 41 CHECKBOX
      ∷ "2902 2902"  -- 4f 51 END
      ∷ []));
  number = 1;
  image = codes "HVS1" ++ hex "0100 0100 0200 0000";
  line = "REFUSED 28 Misplaced at 0000003d\n";
}

second_condition-holds : IsRefusal second_condition
unfolding computing
second_condition-holds = refuses second_condition (record { cause = Misplaced; place = 0x3d }) refl refl

abbrev pub operator_outside_of_an_expression : Refusal
operator_outside_of_an_expression = record {
  list = forms_list (opening 2 ++ hexes
      ("4602"  -- 39 TRUE
      ∷ "060e 0300 0000 0100 0100 0000 00 00"  -- 3b CHECKBOX
      ∷ "2902 2902"  -- 49 4b END
      ∷ []));
  number = 1;
  image = codes "HVS1" ++ hex "0100 0100 0200 0000";
  line = "REFUSED 28 Misplaced at 00000039\n";
}

operator_outside_of_an_expression-holds : IsRefusal operator_outside_of_an_expression
unfolding computing
operator_outside_of_an_expression-holds =
    refuses operator_outside_of_an_expression (record { cause = Misplaced; place = 0x39 }) refl refl

abbrev pub checkbox_in_an_expression : Refusal
checkbox_in_an_expression = record {
  list = forms_list (opening 2 ++ hexes
      ("0a82"  -- 39 SUPPRESS_IF
      ∷ "  4682"  -- 3b TRUE
      ∷ "    060e 0400 0000 0200 0100 0100 00 00"  -- 3d CHECKBOX
      ∷ "  2902 2902"  -- 4b 4d END
      ∷ "060e 0300 0000 0100 0100 0000 00 00"  -- 4f CHECKBOX
      ∷ "2902 2902"  -- 5d 5f END
      ∷ []));
  number = 1;
  image = codes "HVS1" ++ hex "0100 0100 0200 0000";
  line = "REFUSED 28 Misplaced at 0000003d\n";
}

checkbox_in_an_expression-holds : IsRefusal checkbox_in_an_expression
unfolding computing
checkbox_in_an_expression-holds =
    refuses checkbox_in_an_expression (record { cause = Misplaced; place = 0x3d }) refl refl

abbrev pub rule_with_a_second_child : Refusal
rule_with_a_second_child = record {
  list = forms_list (opening 2 ++ hexes
      ("1883 01"  -- 39 RULE
      ∷ "  4602"  -- 3c TRUE
      ∷ "  4602"  -- 3e TRUE
      ∷ "2902"  -- 40 END
      ∷ "060e 0300 0000 0100 0100 0000 00 00"  -- 42 CHECKBOX
      ∷ "2902 2902"  -- 50 52 END
      ∷ []));
  number = 1;
  image = codes "HVS1" ++ hex "0100 0100 0200 0000";
  line = "REFUSED 28 Misplaced at 0000003e\n";
}

rule_with_a_second_child-holds : IsRefusal rule_with_a_second_child
unfolding computing
rule_with_a_second_child-holds = refuses rule_with_a_second_child (record { cause = Misplaced; place = 0x3e }) refl refl

abbrev pub guard_without_a_scope : Refusal
guard_without_a_scope = record {
  list = forms_list (opening 2 ++ hexes
      ("0a02"  -- 39 SUPPRESS_IF
      ∷ "060e 0300 0000 0100 0100 0000 00 00"  -- 3b CHECKBOX
      ∷ "2902 2902"  -- 49 4b END
      ∷ []));
  number = 1;
  image = codes "HVS1" ++ hex "0100 0100 0200 0000";
  line = "REFUSED 29 ScopeBit at 00000039\n";
}

guard_without_a_scope-holds : IsRefusal guard_without_a_scope
unfolding computing
guard_without_a_scope-holds = refuses guard_without_a_scope (record { cause = ScopeBit; place = 0x39 }) refl refl

abbrev pub locked_with_a_scope : Refusal
locked_with_a_scope = record {
  list = forms_list (opening 2 ++ hexes
      ("0b82"  -- 39 LOCKED
      ∷ "2902"  -- 3b END
      ∷ "060e 0300 0000 0100 0100 0000 00 00"  -- 3d CHECKBOX
      ∷ "2902 2902"  -- 4b 4d END
      ∷ []));
  number = 1;
  image = codes "HVS1" ++ hex "0100 0100 0200 0000";
  line = "REFUSED 29 ScopeBit at 00000039\n";
}

locked_with_a_scope-holds : IsRefusal locked_with_a_scope
unfolding computing
locked_with_a_scope-holds = refuses locked_with_a_scope (record { cause = ScopeBit; place = 0x39 }) refl refl

abbrev pub operand_with_a_scope : Refusal
operand_with_a_scope = record {
  list = forms_list (opening 2 ++ hexes
      ("0a82"  -- 39 SUPPRESS_IF
      ∷ "  4682"  -- 3b TRUE
      ∷ "    1782"  -- 3d NOT
      ∷ "    2902 2902 2902"  -- 3f 41 43 END
      ∷ "060e 0300 0000 0100 0100 0000 00 00"  -- 45 CHECKBOX
      ∷ "2902 2902"  -- 53 55 END
      ∷ []));
  number = 1;
  image = codes "HVS1" ++ hex "0100 0100 0200 0000";
  line = "REFUSED 29 ScopeBit at 0000003d\n";
}

operand_with_a_scope-holds : IsRefusal operand_with_a_scope
unfolding computing
operand_with_a_scope-holds = refuses operand_with_a_scope (record { cause = ScopeBit; place = 0x3d }) refl refl

abbrev pub default_with_a_scope : Refusal
default_with_a_scope = record {
  list = forms_list (opening 2 ++ hexes
      ("068e 0400 0000 0200 0100 0100 00 00"  -- 39 CHECKBOX
      ∷ "  5b86 0000 04 01"  -- 47 DEFAULT
      ∷ "  2902 2902"  -- 4d 4f END
      ∷ "060e 0300 0000 0100 0100 0000 00 00"  -- 51 CHECKBOX
      ∷ "2902 2902"  -- 5f 61 END
      ∷ []));
  number = 1;
  image = codes "HVS1" ++ hex "0100 0100 0200 0000";
  line = "REFUSED 29 ScopeBit at 00000047\n";
}

default_with_a_scope-holds : IsRefusal default_with_a_scope
unfolding computing
default_with_a_scope-holds = refuses default_with_a_scope (record { cause = ScopeBit; place = 0x47 }) refl refl

abbrev pub default_of_a_value_without_a_scope : Refusal
default_of_a_value_without_a_scope = record {
  list = forms_list (opening 2 ++ hexes
      ("068e 0400 0000 0200 0100 0100 00 00"  -- 39 CHECKBOX
      ∷ "  5b05 0000 08"  -- 47 DEFAULT
      ∷ "2902"  -- 4c END
      ∷ "060e 0300 0000 0100 0100 0000 00 00"  -- 4e CHECKBOX
      ∷ "2902 2902"  -- 5c 5e END
      ∷ []));
  number = 1;
  image = codes "HVS1" ++ hex "0100 0100 0200 0000";
  line = "REFUSED 29 ScopeBit at 00000047\n";
}

default_of_a_value_without_a_scope-holds : IsRefusal default_of_a_value_without_a_scope
unfolding computing
default_of_a_value_without_a_scope-holds =
    refuses default_of_a_value_without_a_scope (record { cause = ScopeBit; place = 0x47 }) refl refl

-- ---- expressions

abbrev pub guard_without_a_condition : Refusal
guard_without_a_condition = record {
  list = forms_list (opening 2 ++ hexes
      ("0a82"  -- 39 SUPPRESS_IF
      ∷ "2902"  -- 3b END
      ∷ "060e 0300 0000 0100 0100 0000 00 00"  -- 3d CHECKBOX
      ∷ "2902 2902"  -- 4b 4d END
      ∷ []));
  number = 1;
  image = codes "HVS1" ++ hex "0100 0100 0200 0000";
  line = "REFUSED 30 ExprShape at 00000039\n";
}

guard_without_a_condition-holds : IsRefusal guard_without_a_condition
unfolding computing
guard_without_a_condition-holds =
    refuses guard_without_a_condition (record { cause = ExprShape; place = 0x39 }) refl refl

abbrev pub checkbox_as_a_condition : Refusal
checkbox_as_a_condition = record {
  list = forms_list (opening 2 ++ hexes
      ("0a82"  -- 39 SUPPRESS_IF
      ∷ "  060e 0400 0000 0200 0100 0100 00 00"  -- 3b CHECKBOX
      ∷ "2902"  -- 49 END
      ∷ "060e 0300 0000 0100 0100 0000 00 00"  -- 4b CHECKBOX
      ∷ "2902 2902"  -- 59 5b END
      ∷ []));
  number = 1;
  image = codes "HVS1" ++ hex "0100 0100 0200 0000";
  line = "REFUSED 30 ExprShape at 00000039\n";
}

checkbox_as_a_condition-holds : IsRefusal checkbox_as_a_condition
unfolding computing
checkbox_as_a_condition-holds = refuses checkbox_as_a_condition (record { cause = ExprShape; place = 0x39 }) refl refl

abbrev pub default_with_an_expression_alone : Refusal
default_with_an_expression_alone = record {
  list = forms_list (opening 2 ++ hexes
      ("068e 0400 0000 0200 0100 0100 00 00"  -- 39 CHECKBOX
      ∷ "  5b85 0000 08"  -- 47 DEFAULT
      ∷ "    4602"  -- 4c TRUE
      ∷ "  2902 2902"  -- 4e 50 END
      ∷ "060e 0300 0000 0100 0100 0000 00 00"  -- 52 CHECKBOX
      ∷ "2902 2902"  -- 60 62 END
      ∷ []));
  number = 1;
  image = codes "HVS1" ++ hex "0100 0100 0200 0000";
  line = "REFUSED 30 ExprShape at 00000047\n";
}

default_with_an_expression_alone-holds : IsRefusal default_with_an_expression_alone
unfolding computing
default_with_an_expression_alone-holds =
    refuses default_with_an_expression_alone (record { cause = ExprShape; place = 0x47 }) refl refl

abbrev pub value_without_an_expression : Refusal
value_without_an_expression = record {
  list = forms_list (opening 2 ++ hexes
      ("068e 0400 0000 0200 0100 0100 00 00"  -- 39 CHECKBOX
      ∷ "  5b85 0000 08"  -- 47 DEFAULT
      ∷ "    5a82"  -- 4c VALUE
      ∷ "    2902 2902 2902"  -- 4e 50 52 END
      ∷ "060e 0300 0000 0100 0100 0000 00 00"  -- 54 CHECKBOX
      ∷ "2902 2902"  -- 62 64 END
      ∷ []));
  number = 1;
  image = codes "HVS1" ++ hex "0100 0100 0200 0000";
  line = "REFUSED 30 ExprShape at 0000004c\n";
}

value_without_an_expression-holds : IsRefusal value_without_an_expression
unfolding computing
value_without_an_expression-holds =
    refuses value_without_an_expression (record { cause = ExprShape; place = 0x4c }) refl refl

abbrev pub and_without_operands : Refusal
and_without_operands = record {
  list = forms_list (opening 2 ++ hexes
      ("0a82"  -- 39 SUPPRESS_IF
      ∷ "  1582"  -- 3b AND
      ∷ "    4702"  -- 3d FALSE
      ∷ "  2902 2902"  -- 3f 41 END
      ∷ "060e 0300 0000 0100 0100 0000 00 00"  -- 43 CHECKBOX
      ∷ "2902 2902"  -- 51 53 END
      ∷ []));
  number = 1;
  image = codes "HVS1" ++ hex "0100 0100 0200 0000";
  line = "REFUSED 30 ExprShape at 0000003b\n";
}

and_without_operands-holds : IsRefusal and_without_operands
unfolding computing
and_without_operands-holds = refuses and_without_operands (record { cause = ExprShape; place = 0x3b }) refl refl

abbrev pub two_values_are_left : Refusal
two_values_are_left = record {
  list = forms_list (opening 2 ++ hexes
      ("0a82"  -- 39 SUPPRESS_IF
      ∷ "  4283 01"  -- 3b UINT8
      ∷ "    4702"  -- 3e FALSE
      ∷ "  2902 2902"  -- 40 42 END
      ∷ "060e 0300 0000 0100 0100 0000 00 00"  -- 44 CHECKBOX
      ∷ "2902 2902"  -- 52 54 END
      ∷ []));
  number = 1;
  image = codes "HVS1" ++ hex "0100 0100 0200 0000";
  line = "REFUSED 30 ExprShape at 0000003b\n";
}

two_values_are_left-holds : IsRefusal two_values_are_left
unfolding computing
two_values_are_left-holds = refuses two_values_are_left (record { cause = ExprShape; place = 0x3b }) refl refl

abbrev pub sixty_fifth_value : Refusal
sixty_fifth_value = record {
  list = forms_list (opening 2 ++ hexes
      ("0a82"  -- 39 SUPPRESS_IF
      ∷ "  5282"  -- 3b ZERO
      ∷ [])
      ++ times 64 (hexes
      ("5202"  -- 3d ZERO
      ∷ []))
      ++ hexes
      ("  2902 2902"  -- bd bf END
      ∷ "060e 0300 0000 0100 0100 0000 00 00"  -- c1 CHECKBOX
      ∷ "2902 2902"  -- cf d1 END
      ∷ []));
  number = 1;
  image = codes "HVS1" ++ hex "0100 0100 0200 0000";
  line = "REFUSED 31 ExprDepth at 000000bb\n";
}

sixty_fifth_value-holds : IsRefusal sixty_fifth_value
unfolding computing
sixty_fifth_value-holds = refuses sixty_fifth_value (record { cause = ExprDepth; place = 0xbb }) refl refl

-- ---- nodes among each other

abbrev pub same_forms_come_before_same_stores : Refusal
same_forms_come_before_same_stores = record {
  list = forms_list (hexes
      ("0e97 22222222222222222222222222222222 0100 0000 00"  -- 4 FORM_SET
      ∷ "  2418 33333333333333333333333333333333 0100 0200 5600"  -- 1b VARSTORE
      ∷ "  2418 33333333333333333333333333333333 0100 0200 5600"  -- 33 VARSTORE
      ∷ "  0186 0100 0200"  -- 4b FORM
      ∷ "  2902"  -- 51 END
      ∷ "  0186 0100 0200"  -- 53 FORM
      ∷ "  2902 2902"  -- 59 5b END
      ∷ []));
  number = 1;
  image = codes "HVS1" ++ hex "0100 0100 0200 0000";
  line = "REFUSED 32 DuplicateForm at 00000053\n";
}

same_forms_come_before_same_stores-holds : IsRefusal same_forms_come_before_same_stores
unfolding computing
same_forms_come_before_same_stores-holds =
    refuses same_forms_come_before_same_stores (record { cause = DuplicateForm; place = 0x53 }) refl refl

abbrev pub same_stores_come_before_fields : Refusal
same_stores_come_before_fields = record {
  list = forms_list (opening 2 ++ hexes
      ("060e 0300 0000 0100 0100 0900 00 00"  -- 39 CHECKBOX
      ∷ "2902"  -- 47 END
      ∷ "2418 33333333333333333333333333333333 0100 0200 5600"  -- 49 VARSTORE
      ∷ "2902"  -- 61 END
      ∷ []));
  number = 1;
  image = codes "HVS1" ++ hex "0100 0100 0200 0000";
  line = "REFUSED 34 DuplicateVarstore at 00000049\n";
}

same_stores_come_before_fields-holds : IsRefusal same_stores_come_before_fields
unfolding computing
same_stores_come_before_fields-holds =
    refuses same_stores_come_before_fields (record { cause = DuplicateVarstore; place = 0x49 }) refl refl

abbrev pub form_set_without_a_form : Refusal
form_set_without_a_form = record {
  list = forms_list (hexes
      ("0e97 22222222222222222222222222222222 0100 0000 00"  -- 4 FORM_SET
      ∷ "  2418 33333333333333333333333333333333 0100 0200 5600"  -- 1b VARSTORE
      ∷ "2902"  -- 33 END
      ∷ []));
  number = 1;
  image = codes "HVS1" ++ hex "0100 0100 0200 0000";
  line = "REFUSED 39 NoForm at 00000004\n";
}

form_set_without_a_form-holds : IsRefusal form_set_without_a_form
unfolding computing
form_set_without_a_form-holds = refuses form_set_without_a_form (record { cause = NoForm; place = 0x4 }) refl refl

abbrev pub form_of_the_same_id : Refusal
form_of_the_same_id = record {
  list = forms_list (opening 2 ++ hexes
      ("060e 0300 0000 0100 0100 0000 00 00"  -- 39 CHECKBOX
      ∷ "2902"  -- 47 END
      ∷ "0186 0100 0900"  -- 49 FORM
      ∷ "2902 2902"  -- 4f 51 END
      ∷ []));
  number = 1;
  image = codes "HVS1" ++ hex "0100 0100 0200 0000";
  line = "REFUSED 32 DuplicateForm at 00000049\n";
}

form_of_the_same_id-holds : IsRefusal form_of_the_same_id
unfolding computing
form_of_the_same_id-holds = refuses form_of_the_same_id (record { cause = DuplicateForm; place = 0x49 }) refl refl

abbrev pub question_of_the_same_id : Refusal
question_of_the_same_id = record {
  list = forms_list (opening 2 ++ hexes
      ("060e 0300 0000 0100 0100 0000 00 00"  -- 39 CHECKBOX
      ∷ "060e 0300 0000 0100 0100 0100 00 00"  -- 47 CHECKBOX
      ∷ "2902 2902"  -- 55 57 END
      ∷ []));
  number = 1;
  image = codes "HVS1" ++ hex "0100 0100 0200 0000";
  line = "REFUSED 33 DuplicateQuestion at 00000047\n";
}

question_of_the_same_id-holds : IsRefusal question_of_the_same_id
unfolding computing
question_of_the_same_id-holds =
    refuses question_of_the_same_id (record { cause = DuplicateQuestion; place = 0x47 }) refl refl

abbrev pub questions_of_two_kinds_and_one_id : Refusal
questions_of_two_kinds_and_one_id = record {
  list = forms_list (opening 2 ++ hexes
      ("060e 0300 0000 0100 0100 0000 00 00"  -- 39 CHECKBOX
      ∷ "1a0e 0300 0000 0100 0000 0000 00 00"  -- 47 DATE
      ∷ "2902 2902"  -- 55 57 END
      ∷ []));
  number = 1;
  image = codes "HVS1" ++ hex "0100 0100 0200 0000";
  line = "REFUSED 33 DuplicateQuestion at 00000047\n";
}

questions_of_two_kinds_and_one_id-holds : IsRefusal questions_of_two_kinds_and_one_id
unfolding computing
questions_of_two_kinds_and_one_id-holds =
    refuses questions_of_two_kinds_and_one_id (record { cause = DuplicateQuestion; place = 0x47 }) refl refl

abbrev pub store_of_the_same_id : Refusal
store_of_the_same_id = record {
  list = forms_list (opening 2 ++ hexes
      ("060e 0300 0000 0100 0100 0000 00 00"  -- 39 CHECKBOX
      ∷ "2902"  -- 47 END
      ∷ "2418 33333333333333333333333333333333 0100 0200 5600"  -- 49 VARSTORE
      ∷ "2902"  -- 61 END
      ∷ []));
  number = 1;
  image = codes "HVS1" ++ hex "0100 0100 0200 0000";
  line = "REFUSED 34 DuplicateVarstore at 00000049\n";
}

store_of_the_same_id-holds : IsRefusal store_of_the_same_id
unfolding computing
store_of_the_same_id-holds = refuses store_of_the_same_id (record { cause = DuplicateVarstore; place = 0x49 }) refl refl

abbrev pub efi_store_of_id_0 : Refusal
efi_store_of_id_0 = record {
  list = forms_list (hexes
      ("0e97 22222222222222222222222222222222 0100 0000 00"  -- 4 FORM_SET
      ∷ "  2418 33333333333333333333333333333333 0100 0200 5600"  -- 1b VARSTORE
      ∷ "  261c 0000 33333333333333333333333333333333 07000000 0200 5600"  -- 33 VARSTORE_EFI
      ∷ "  0186 0100 0200"  -- 4f FORM
      ∷ "    060e 0300 0000 0100 0100 0000 00 00"  -- 55 CHECKBOX
      ∷ "  2902 2902"  -- 63 65 END
      ∷ []));
  number = 1;
  image = codes "HVS1" ++ hex "0100 0100 0200 0000";
  line = "REFUSED 34 DuplicateVarstore at 00000033\n";
}

efi_store_of_id_0-holds : IsRefusal efi_store_of_id_0
unfolding computing
efi_store_of_id_0-holds = refuses efi_store_of_id_0 (record { cause = DuplicateVarstore; place = 0x33 }) refl refl

abbrev pub stores_of_two_kinds_and_one_id : Refusal
stores_of_two_kinds_and_one_id = record {
  list = forms_list (hexes
      ("0e97 22222222222222222222222222222222 0100 0000 00"  -- 4 FORM_SET
      ∷ "  2418 33333333333333333333333333333333 0100 0200 5600"  -- 1b VARSTORE
      ∷ "  2514 0100 33333333333333333333333333333333"  -- 33 VARSTORE_NAME_VALUE
      ∷ "  0186 0100 0200"  -- 47 FORM
      ∷ "    060e 0300 0000 0100 0100 0000 00 00"  -- 4d CHECKBOX
      ∷ "  2902 2902"  -- 5b 5d END
      ∷ []));
  number = 1;
  image = codes "HVS1" ++ hex "0100 0100 0200 0000";
  line = "REFUSED 34 DuplicateVarstore at 00000033\n";
}

stores_of_two_kinds_and_one_id-holds : IsRefusal stores_of_two_kinds_and_one_id
unfolding computing
stores_of_two_kinds_and_one_id-holds =
    refuses stores_of_two_kinds_and_one_id (record { cause = DuplicateVarstore; place = 0x33 }) refl refl

abbrev pub reference_to_a_third_of_two_forms : Refusal
reference_to_a_third_of_two_forms = record {
  list = forms_list (opening 2 ++ hexes
      ("0f0f 0800 0000 0500 0000 0000 00 0300"  -- 39 REF
      ∷ "2902"  -- 48 END
      ∷ "0186 0200 0900"  -- 4a FORM
      ∷ "  0d08 0a00 0000 0000"  -- 50 RESET_BUTTON
      ∷ "  060e 0300 0000 0100 0100 0000 00 01"  -- 58 CHECKBOX
      ∷ "2902 2902"  -- 66 68 END
      ∷ []));
  number = 1;
  image = codes "HVS1" ++ hex "0100 0100 0200 0000";
  line = "REFUSED 39 NoForm at 00000039\n";
}

reference_to_a_third_of_two_forms-holds : IsRefusal reference_to_a_third_of_two_forms
unfolding computing
reference_to_a_third_of_two_forms-holds =
    refuses reference_to_a_third_of_two_forms (record { cause = NoForm; place = 0x39 }) refl refl

abbrev pub rules_of_8189_operators : Refusal
rules_of_8189_operators = record {
  list = forms_list (opening 2 ++ hexes
      ("1883 01"  -- 39 RULE
      ∷ "  4602"  -- 3c TRUE
      ∷ "2902"  -- 3e END
      ∷ "1883 01"  -- 40 RULE
      ∷ "  3f83 01"  -- 43 RULE_REF
      ∷ "    3f03 01"  -- 46 RULE_REF
      ∷ "    1602"  -- 49 OR
      ∷ "  2902 2902"  -- 4b 4d END
      ∷ "1883 01"  -- 4f RULE
      ∷ "  3f83 01"  -- 52 RULE_REF
      ∷ "    3f03 01"  -- 55 RULE_REF
      ∷ "    1602"  -- 58 OR
      ∷ "  2902 2902"  -- 5a 5c END
      ∷ "1883 01"  -- 5e RULE
      ∷ "  3f83 01"  -- 61 RULE_REF
      ∷ "    3f03 01"  -- 64 RULE_REF
      ∷ "    1602"  -- 67 OR
      ∷ "  2902 2902"  -- 69 6b END
      ∷ "1883 01"  -- 6d RULE
      ∷ "  3f83 01"  -- 70 RULE_REF
      ∷ "    3f03 01"  -- 73 RULE_REF
      ∷ "    1602"  -- 76 OR
      ∷ "  2902 2902"  -- 78 7a END
      ∷ "1883 01"  -- 7c RULE
      ∷ "  3f83 01"  -- 7f RULE_REF
      ∷ "    3f03 01"  -- 82 RULE_REF
      ∷ "    1602"  -- 85 OR
      ∷ "  2902 2902"  -- 87 89 END
      ∷ "1883 01"  -- 8b RULE
      ∷ "  3f83 01"  -- 8e RULE_REF
      ∷ "    3f03 01"  -- 91 RULE_REF
      ∷ "    1602"  -- 94 OR
      ∷ "  2902 2902"  -- 96 98 END
      ∷ "1883 01"  -- 9a RULE
      ∷ "  3f83 01"  -- 9d RULE_REF
      ∷ "    3f03 01"  -- a0 RULE_REF
      ∷ "    1602"  -- a3 OR
      ∷ "  2902 2902"  -- a5 a7 END
      ∷ "1883 01"  -- a9 RULE
      ∷ "  3f83 01"  -- ac RULE_REF
      ∷ "    3f03 01"  -- af RULE_REF
      ∷ "    1602"  -- b2 OR
      ∷ "  2902 2902"  -- b4 b6 END
      ∷ "1883 01"  -- b8 RULE
      ∷ "  3f83 01"  -- bb RULE_REF
      ∷ "    3f03 01"  -- be RULE_REF
      ∷ "    1602"  -- c1 OR
      ∷ "  2902 2902"  -- c3 c5 END
      ∷ "1883 01"  -- c7 RULE
      ∷ "  3f83 01"  -- ca RULE_REF
      ∷ "    3f03 01"  -- cd RULE_REF
      ∷ "    1602"  -- d0 OR
      ∷ "  2902 2902"  -- d2 d4 END
      ∷ "1883 01"  -- d6 RULE
      ∷ "  3f83 01"  -- d9 RULE_REF
      ∷ "    3f03 01"  -- dc RULE_REF
      ∷ "    1602"  -- df OR
      ∷ "  2902 2902"  -- e1 e3 END
      ∷ "060e 0300 0000 0100 0100 0000 00 00"  -- e5 CHECKBOX
      ∷ "2902 2902"  -- f3 f5 END
      ∷ []));
  number = 1;
  image = codes "HVS1" ++ hex "0100 0100 0200 0000";
  line = "REFUSED 40 RuleTooLarge at 000000d6\n";
}

rules_of_8189_operators-holds : IsRefusal rules_of_8189_operators
unfolding computing
rules_of_8189_operators-holds =
    refuses rules_of_8189_operators (record { cause = RuleTooLarge; place = 0xd6 }) refl refl

abbrev pub rules_of_depth_17 : Refusal
rules_of_depth_17 = record {
  list = forms_list (opening 2 ++ hexes
      ("1883 01"  -- 39 RULE
      ∷ "  4602"  -- 3c TRUE
      ∷ [])
      ++ times 16 (hexes
      ("2902"  -- 3e END
      ∷ "1883 01"  -- 40 RULE
      ∷ "3f03 01"  -- 43 RULE_REF
      ∷ []))
      ++ hexes
      ("2902"  -- be END
      ∷ "060e 0300 0000 0100 0100 0000 00 00"  -- c0 CHECKBOX
      ∷ "2902 2902"  -- ce d0 END
      ∷ []));
  number = 1;
  image = codes "HVS1" ++ hex "0100 0100 0200 0000";
  line = "REFUSED 40 RuleTooLarge at 000000b8\n";
}

rules_of_depth_17-holds : IsRefusal rules_of_depth_17
unfolding computing
rules_of_depth_17-holds = refuses rules_of_depth_17 (record { cause = RuleTooLarge; place = 0xb8 }) refl refl

-- ---- questions

abbrev pub question_of_an_unknown_store : Refusal
question_of_an_unknown_store = record {
  list = forms_list (opening 2 ++ hexes
      ("060e 0300 0000 0100 0900 0000 00 00"  -- 39 CHECKBOX
      ∷ "2902 2902"  -- 47 49 END
      ∷ []));
  number = 1;
  image = codes "HVS1" ++ hex "0100 0100 0200 0000";
  line = "REFUSED 35 UnknownVarstore at 00000039\n";
}

question_of_an_unknown_store-holds : IsRefusal question_of_an_unknown_store
unfolding computing
question_of_an_unknown_store-holds =
    refuses question_of_an_unknown_store (record { cause = UnknownVarstore; place = 0x39 }) refl refl

abbrev pub field_outside_its_store : Refusal
field_outside_its_store = record {
  list = forms_list (opening 2 ++ hexes
      ("060e 0300 0000 0100 0100 0200 00 00"  -- 39 CHECKBOX
      ∷ "2902 2902"  -- 47 49 END
      ∷ []));
  number = 1;
  image = codes "HVS1" ++ hex "0100 0100 0200 0000";
  line = "REFUSED 36 FieldOutside at 00000039\n";
}

field_outside_its_store-holds : IsRefusal field_outside_its_store
unfolding computing
field_outside_its_store-holds =
    refuses field_outside_its_store (record { cause = FieldOutside; place = 0x39 }) refl refl

abbrev pub list_past_its_store : Refusal
list_past_its_store = record {
  list = forms_list (opening 2 ++ hexes
      ("238f 0300 0000 0100 0100 0000 00 02 00"  -- 39 ORDERED_LIST
      ∷ "  0908 0500 00 01 0100"  -- 48 ONE_OF_OPTION
      ∷ "2902 2902 2902"  -- 50 52 54 END
      ∷ []));
  number = 1;
  image = codes "HVS1" ++ hex "0100 0100 0200 0000";
  line = "REFUSED 36 FieldOutside at 00000039\n";
}

list_past_its_store-holds : IsRefusal list_past_its_store
unfolding computing
list_past_its_store-holds = refuses list_past_its_store (record { cause = FieldOutside; place = 0x39 }) refl refl

abbrev pub option_too_large : Refusal
option_too_large = record {
  list = forms_list (opening 2 ++ hexes
      ("0591 0300 0000 0100 0100 0000 00 10 00 00 00"  -- 39 ONE_OF
      ∷ "  0908 0500 00 01 0001"  -- 4a ONE_OF_OPTION
      ∷ "2902 2902 2902"  -- 52 54 56 END
      ∷ []));
  number = 1;
  image = codes "HVS1" ++ hex "0100 0100 0200 0000";
  line = "REFUSED 37 OptionRange at 0000004a\n";
}

option_too_large-holds : IsRefusal option_too_large
unfolding computing
option_too_large-holds = refuses option_too_large (record { cause = OptionRange; place = 0x4a }) refl refl

abbrev pub options_of_two_widths : Refusal
options_of_two_widths = record {
  list = forms_list (opening 2 ++ hexes
      ("238f 0300 0000 0100 0100 0000 00 02 03"  -- 39 ORDERED_LIST
      ∷ "  0907 0500 00 00 01"  -- 48 ONE_OF_OPTION
      ∷ "  0908 0600 00 01 0200"  -- 4f ONE_OF_OPTION
      ∷ "2902 2902 2902"  -- 57 59 5b END
      ∷ []));
  number = 1;
  image = codes "HVS1" ++ hex "0100 0100 0200 0000";
  line = "REFUSED 38 MixedOptions at 0000004f\n";
}

options_of_two_widths-holds : IsRefusal options_of_two_widths
unfolding computing
options_of_two_widths-holds = refuses options_of_two_widths (record { cause = MixedOptions; place = 0x4f }) refl refl

abbrev pub options_of_two_types : Refusal
options_of_two_types = record {
  list = forms_list (opening 2 ++ hexes
      ("238f 0300 0000 0100 0100 0000 00 02 00"  -- 39 ORDERED_LIST
      ∷ "  0907 0500 00 00 01"  -- 48 ONE_OF_OPTION
      ∷ "  0907 0600 00 04 01"  -- 4f ONE_OF_OPTION
      ∷ "2902 2902 2902"  -- 56 58 5a END
      ∷ []));
  number = 1;
  image = codes "HVS1" ++ hex "0100 0100 0200 0000";
  line = "REFUSED 38 MixedOptions at 0000004f\n";
}

options_of_two_types-holds : IsRefusal options_of_two_types
unfolding computing
options_of_two_types-holds = refuses options_of_two_types (record { cause = MixedOptions; place = 0x4f }) refl refl

-- ---- images

abbrev pub older_image_of_a_wrong_mark : Refusal
older_image_of_a_wrong_mark = record {
  list = forms_list (opening 2 ++ hexes
      ("060e 0300 0000 0100 0100 0000 00 00"  -- 39 CHECKBOX
      ∷ "2902 2902"  -- 47 49 END
      ∷ []));
  number = 1;
  image = codes "HVS9" ++ hex "0100 0100 0200 0000";
  line = "REFUSED 50 StoreMagic at 00000000\n";
}

older_image_of_a_wrong_mark-holds : IsRefusal older_image_of_a_wrong_mark
unfolding computing
older_image_of_a_wrong_mark-holds =
    refuses older_image_of_a_wrong_mark (record { cause = StoreMagic; place = 0x0 }) refl refl

abbrev pub older_image_of_a_wrong_count : Refusal
older_image_of_a_wrong_count = record {
  list = forms_list (opening 2 ++ hexes
      ("060e 0300 0000 0100 0100 0000 00 00"  -- 39 CHECKBOX
      ∷ "2902 2902"  -- 47 49 END
      ∷ []));
  number = 1;
  image = codes "HVS1" ++ hex "0200 0100 0200 0000";
  line = "REFUSED 51 StoreCount at 00000004\n";
}

older_image_of_a_wrong_count-holds : IsRefusal older_image_of_a_wrong_count
unfolding computing
older_image_of_a_wrong_count-holds =
    refuses older_image_of_a_wrong_count (record { cause = StoreCount; place = 0x4 }) refl refl

abbrev pub older_image_of_a_wrong_id : Refusal
older_image_of_a_wrong_id = record {
  list = forms_list (opening 2 ++ hexes
      ("060e 0300 0000 0100 0100 0000 00 00"  -- 39 CHECKBOX
      ∷ "2902 2902"  -- 47 49 END
      ∷ []));
  number = 1;
  image = codes "HVS1" ++ hex "0100 0200 0200 0000";
  line = "REFUSED 52 StoreId at 00000006\n";
}

older_image_of_a_wrong_id-holds : IsRefusal older_image_of_a_wrong_id
unfolding computing
older_image_of_a_wrong_id-holds = refuses older_image_of_a_wrong_id (record { cause = StoreId; place = 0x6 }) refl refl

abbrev pub older_image_of_a_wrong_size : Refusal
older_image_of_a_wrong_size = record {
  list = forms_list (opening 2 ++ hexes
      ("060e 0300 0000 0100 0100 0000 00 00"  -- 39 CHECKBOX
      ∷ "2902 2902"  -- 47 49 END
      ∷ []));
  number = 1;
  image = codes "HVS1" ++ hex "0100 0100 0300 0000";
  line = "REFUSED 53 StoreSize at 00000008\n";
}

older_image_of_a_wrong_size-holds : IsRefusal older_image_of_a_wrong_size
unfolding computing
older_image_of_a_wrong_size-holds =
    refuses older_image_of_a_wrong_size (record { cause = StoreSize; place = 0x8 }) refl refl

abbrev pub older_image_of_a_wrong_end : Refusal
older_image_of_a_wrong_end = record {
  list = forms_list (opening 2 ++ hexes
      ("060e 0300 0000 0100 0100 0000 00 00"  -- 39 CHECKBOX
      ∷ "2902 2902"  -- 47 49 END
      ∷ []));
  number = 1;
  image = codes "HVS1" ++ hex "0100 0100 0200 00";
  line = "REFUSED 54 StoreShort at 0000000a\n";
}

older_image_of_a_wrong_end-holds : IsRefusal older_image_of_a_wrong_end
unfolding computing
older_image_of_a_wrong_end-holds =
    refuses older_image_of_a_wrong_end (record { cause = StoreShort; place = 0xa }) refl refl

abbrev pub older_image_of_a_wrong_rest : Refusal
older_image_of_a_wrong_rest = record {
  list = forms_list (opening 2 ++ hexes
      ("060e 0300 0000 0100 0100 0000 00 00"  -- 39 CHECKBOX
      ∷ "2902 2902"  -- 47 49 END
      ∷ []));
  number = 1;
  image = codes "HVS1" ++ hex "0100 0100 0200 0000 00";
  line = "REFUSED 55 StoreTrailing at 0000000c\n";
}

older_image_of_a_wrong_rest-holds : IsRefusal older_image_of_a_wrong_rest
unfolding computing
older_image_of_a_wrong_rest-holds =
    refuses older_image_of_a_wrong_rest (record { cause = StoreTrailing; place = 0xc }) refl refl

abbrev pub image_of_a_wrong_guid : Refusal
image_of_a_wrong_guid = record {
  list = forms_list (opening 2 ++ hexes
      ("060e 0300 0000 0100 0100 0000 00 00"  -- 39 CHECKBOX
      ∷ "2902 2902"  -- 47 49 END
      ∷ []));
  number = 1;
  image = codes "HVS2" ++ hex "23222222222222222222222222222222 0100 0100 0200 0000";
  line = "REFUSED 56 StoreFormSet at 00000004\n";
}

image_of_a_wrong_guid-holds : IsRefusal image_of_a_wrong_guid
unfolding computing
image_of_a_wrong_guid-holds = refuses image_of_a_wrong_guid (record { cause = StoreFormSet; place = 0x4 }) refl refl

abbrev pub image_of_a_wrong_guid_cut_short : Refusal
image_of_a_wrong_guid_cut_short = record {
  list = forms_list (opening 2 ++ hexes
      ("060e 0300 0000 0100 0100 0000 00 00"  -- 39 CHECKBOX
      ∷ "2902 2902"  -- 47 49 END
      ∷ []));
  number = 1;
  image = codes "HVS2" ++ hex "222222222222222222222222222222";
  line = "REFUSED 54 StoreShort at 00000004\n";
}

image_of_a_wrong_guid_cut_short-holds : IsRefusal image_of_a_wrong_guid_cut_short
unfolding computing
image_of_a_wrong_guid_cut_short-holds =
    refuses image_of_a_wrong_guid_cut_short (record { cause = StoreShort; place = 0x4 }) refl refl

abbrev pub image_of_a_wrong_count : Refusal
image_of_a_wrong_count = record {
  list = forms_list (opening 2 ++ hexes
      ("060e 0300 0000 0100 0100 0000 00 00"  -- 39 CHECKBOX
      ∷ "2902 2902"  -- 47 49 END
      ∷ []));
  number = 1;
  image = codes "HVS2" ++ hex "22222222222222222222222222222222 0200 0100 0200 0000";
  line = "REFUSED 51 StoreCount at 00000014\n";
}

image_of_a_wrong_count-holds : IsRefusal image_of_a_wrong_count
unfolding computing
image_of_a_wrong_count-holds = refuses image_of_a_wrong_count (record { cause = StoreCount; place = 0x14 }) refl refl

abbrev pub image_of_a_wrong_size : Refusal
image_of_a_wrong_size = record {
  list = forms_list (opening 2 ++ hexes
      ("060e 0300 0000 0100 0100 0000 00 00"  -- 39 CHECKBOX
      ∷ "2902 2902"  -- 47 49 END
      ∷ []));
  number = 1;
  image = codes "HVS2" ++ hex "22222222222222222222222222222222 0100 0100 0300 0000";
  line = "REFUSED 53 StoreSize at 00000018\n";
}

image_of_a_wrong_size-holds : IsRefusal image_of_a_wrong_size
unfolding computing
image_of_a_wrong_size-holds = refuses image_of_a_wrong_size (record { cause = StoreSize; place = 0x18 }) refl refl

abbrev pub image_of_a_wrong_end : Refusal
image_of_a_wrong_end = record {
  list = forms_list (opening 2 ++ hexes
      ("060e 0300 0000 0100 0100 0000 00 00"  -- 39 CHECKBOX
      ∷ "2902 2902"  -- 47 49 END
      ∷ []));
  number = 1;
  image = codes "HVS2" ++ hex "22222222222222222222222222222222 0100 0100 0200 00";
  line = "REFUSED 54 StoreShort at 0000001a\n";
}

image_of_a_wrong_end-holds : IsRefusal image_of_a_wrong_end
unfolding computing
image_of_a_wrong_end-holds = refuses image_of_a_wrong_end (record { cause = StoreShort; place = 0x1a }) refl refl

abbrev pub image_of_a_wrong_rest : Refusal
image_of_a_wrong_rest = record {
  list = forms_list (opening 2 ++ hexes
      ("060e 0300 0000 0100 0100 0000 00 00"  -- 39 CHECKBOX
      ∷ "2902 2902"  -- 47 49 END
      ∷ []));
  number = 1;
  image = codes "HVS2" ++ hex "22222222222222222222222222222222 0100 0100 0200 0000 00";
  line = "REFUSED 55 StoreTrailing at 0000001c\n";
}

image_of_a_wrong_rest-holds : IsRefusal image_of_a_wrong_rest
unfolding computing
image_of_a_wrong_rest-holds = refuses image_of_a_wrong_rest (record { cause = StoreTrailing; place = 0x1c }) refl refl

abbrev pub image_of_a_wrong_second_size_and_third_id : Refusal
image_of_a_wrong_second_size_and_third_id = record {
  list = forms_list (hexes
      ("0e97 22222222222222222222222222222222 0100 0000 00"  -- 4 FORM_SET
      ∷ "  2418 33333333333333333333333333333333 0100 0200 5600"  -- 1b VARSTORE
      ∷ "  2418 33333333333333333333333333333333 0900 0000 5600"  -- 33 VARSTORE
      ∷ "  261c 0700 33333333333333333333333333333333 07000000 0300 5600"  -- 4b VARSTORE_EFI
      ∷ "  0186 0100 0200"  -- 67 FORM
      ∷ "    060e 0300 0000 0100 0100 0000 00 00"  -- 6d CHECKBOX
      ∷ "  2902 2902"  -- 7b 7d END
      ∷ []));
  number = 1;
  image = codes "HVS2" ++ hex "22222222222222222222222222222222 0300 0100 0200 0102 0900 0100 09 0003 0003 0405";
  line = "REFUSED 53 StoreSize at 0000001e\n";
}

image_of_a_wrong_second_size_and_third_id-holds : IsRefusal image_of_a_wrong_second_size_and_third_id
unfolding computing
image_of_a_wrong_second_size_and_third_id-holds =
    refuses image_of_a_wrong_second_size_and_third_id (record { cause = StoreSize; place = 0x1e }) refl refl

abbrev pub store_of_names_is_not_in_the_image : Refusal
store_of_names_is_not_in_the_image = record {
  list = forms_list (hexes
      ("0e97 22222222222222222222222222222222 0100 0000 00"  -- 4 FORM_SET
      ∷ "  2418 33333333333333333333333333333333 0100 0200 5600"  -- 1b VARSTORE
      ∷ "  2514 0500 33333333333333333333333333333333"  -- 33 VARSTORE_NAME_VALUE
      ∷ "  0a82"  -- 47 SUPPRESS_IF
      ∷ "    4602"  -- 49 TRUE
      ∷ "    261c 0700 33333333333333333333333333333333 07000000 0300 5600"  -- 4b VARSTORE_EFI
      ∷ "  2902"  -- 67 END
      ∷ "  0186 0100 0200"  -- 69 FORM
      ∷ "    060e 0300 0000 0100 0100 0000 00 00"  -- 6f CHECKBOX
      ∷ "    060e 0400 0000 0200 0700 0200 00 00"  -- 7d CHECKBOX
      ∷ "  2902 2902"  -- 8b 8d END
      ∷ []));
  number = 1;
  image = codes "HVS1" ++ hex "0300 0100 0200 0000 0500 0000 0700 0300 000000";
  line = "REFUSED 51 StoreCount at 00000004\n";
}

store_of_names_is_not_in_the_image-holds : IsRefusal store_of_names_is_not_in_the_image
unfolding computing
store_of_names_is_not_in_the_image-holds =
    refuses store_of_names_is_not_in_the_image (record { cause = StoreCount; place = 0x4 }) refl refl

-- Lines that were worked out by hand.
use Rattle.std.proofs.Common.{◌≡◌, Some, List, [], ◌∷◌, ◌++◌, refl}
use Rattle.std.specs.Prelude.{codes}
use Rattle.std.specs.Fmt.{digits}
use Rattle.browser_rules.specs.Opcodes.{row_of}
use Rattle.browser_rules.specs.Strings.{Spoken, characters}
use Rattle.browser_rules.specs.Words.{number_in}
use Rattle.opcode_audit.specs.Words.{facts_json, opcode_words}
use Rattle.audit_json.specs.declared.telling.Telling.TheVariants.{Lines, Objects}
use Rattle.opcode_audit.specs.Facts.{opcode_facts}
use Rattle.opcode_audit.specs.Lines.{line, opcode_object, opcodes_text}
use Rattle.opcode_audit.specs.Walk.{opcodes_from}

-- the string id 1 has the text `a"b`
abbrev english : List Spoken
english = record { language = codes "en-US"; texts = Some (0x61 ∷ 0 ∷ 0x22 ∷ 0 ∷ 0x62 ∷ 0 ∷ []) ∷ [] } ∷ []

a_form_at_its_place : line record { telling = Lines; spoken = english; base = 20 } 0x79 1 (0x01 ∷ 0x86 ∷ 1 ∷ 0 ∷ 1 ∷ 0 ∷ [])
    ≡ codes "00000079 0000008d   FORM FormId=1 FormTitle=1 \"a\\\"b\" ; 018601000100\n"
unfolding row_of number_in characters digits lib.Utf8.encode
a_form_at_its_place = refl

a_text_that_is_missing : opcode_words english (0x02 ∷ 0x87 ∷ 9 ∷ 0 ∷ 0 ∷ 0 ∷ 0x1f ∷ []) ≡ codes "SUBTITLE Prompt=9 \"#9\" Help=0 Flags=0x1f"
unfolding row_of number_in characters digits lib.Utf8.encode
a_text_that_is_missing = refl

numbers_of_the_width_that_flags_tell : opcode_words [] (0x07 ∷ 0x94 ∷ 0 ∷ 0 ∷ 0 ∷ 0 ∷ 34 ∷ 0 ∷ 16 ∷ 0 ∷ 0xff ∷ 0xff ∷ 1 ∷ 0x11 ∷ 1 ∷ 0 ∷ 0x10 ∷ 0x0e ∷ 1 ∷ 0 ∷ [])
    ≡ codes "NUMERIC Prompt=0 Help=0 QuestionId=34 VarStoreId=16 VarOffset=0xffff QuestionFlags=0x1 Flags=0x11 MinValue=1 MaxValue=3600 Step=1"
unfolding row_of number_in digits
numbers_of_the_width_that_flags_tell = refl

fields_up_to_one_that_is_cut : opcode_words [] (0x0f ∷ 0x10 ∷ 0 ∷ 0 ∷ 0 ∷ 0 ∷ 1 ∷ 0 ∷ 0 ∷ 0 ∷ 0 ∷ 0 ∷ 0 ∷ 2 ∷ 0 ∷ 7 ∷ [])
    ≡ codes "REF Prompt=0 Help=0 QuestionId=1 VarStoreId=0 VarOffset=0x0 QuestionFlags=0x0 FormId=2"
unfolding row_of number_in digits
fields_up_to_one_that_is_cut = refl

values_by_their_type : opcode_words english (0x5b ∷ 6 ∷ 0 ∷ 0 ∷ 0 ∷ 251 ∷ []) ++ opcode_words english (0x5b ∷ 7 ∷ 0 ∷ 0 ∷ 7 ∷ 2 ∷ 0 ∷ []) ++ opcode_words english (0x5b ∷ 7 ∷ 0 ∷ 0 ∷ 0x0b ∷ 2 ∷ 0x1f ∷ [])
    ≡ codes "DEFAULT DefaultId=0 Type=0 Value=251DEFAULT DefaultId=0 Type=7 Value=2 \"#2\"DEFAULT DefaultId=0 Type=11 Value=021f"
unfolding row_of number_in characters digits lib.Utf8.encode
values_by_their_type = refl

a_list_of_numbers : opcode_words [] (0x14 ∷ 10 ∷ 34 ∷ 0 ∷ 2 ∷ 0 ∷ 0x9a ∷ 2 ∷ 0x9b ∷ 2 ∷ []) ≡ codes "EQ_ID_VAL_LIST QuestionId=34 ListLength=2 ValueList=666,667"
unfolding row_of number_in digits
a_list_of_numbers = refl

a_name_that_turns_a_line : opcode_words [] (0x24 ∷ 25 ∷ 0x10 ∷ 0x5a ∷ 0x1e ∷ 0x6d ∷ 0x4b ∷ 0x7c ∷ 0x0a ∷ 0x4e ∷ 0x9a ∷ 0x31 ∷ 0x22 ∷ 0x5c ∷ 0x60 ∷ 0x88 ∷ 0x0f ∷ 0x01 ∷ 16 ∷ 0 ∷ 72 ∷ 0 ∷ 0x53 ∷ 0x0a ∷ 0 ∷ [])
    ≡ codes "VARSTORE Guid=6D1E5A10-7C4B-4E0A-9A31-225C60880F01 VarStoreId=16 Size=72 Name=\"S\\u000a\""
unfolding row_of number_in digits lib.Utf8.encode
a_name_that_turns_a_line = refl

a_number_without_a_name : opcode_words [] (0xa5 ∷ 3 ∷ 7 ∷ []) ≡ codes "0xa5"
unfolding row_of
a_number_without_a_name = refl

-- a form set's END stands where the form set stands, and behind it no length fits
a_walk : opcodes_text Lines [] 0x100 record { place = 20; kind = 2; bytes = 14 ∷ 0 ∷ 0 ∷ 2 ∷ 0x0a ∷ 0x82 ∷ 0x46 ∷ 2 ∷ 0x29 ∷ 2 ∷ 0x29 ∷ 2 ∷ 0x0b ∷ 4 ∷ [] }
    ≡ codes "00000004 00000118 SUPPRESS_IF ; 0a82\n00000006 0000011a   TRUE ; 4602\n00000008 0000011c END ; 2902\n0000000a 0000011e END ; 2902\n"
unfolding row_of number_in opcodes_from
a_walk = refl

-- ---- objects

a_form_as_an_object : opcode_object record { telling = Objects; spoken = english; base = 20 } 0x79 1 (0x01 ∷ 0x86 ∷ 1 ∷ 0 ∷ 1 ∷ 0 ∷ [])
    ≡ codes "{\"kind\":\"opcode\",\"at\":121,\"byte\":141,\"depth\":1,\"name\":\"FORM\",\"fields\":{\"FormId\":1,\"FormTitle\":1,\"FormTitleText\":\"a\\\"b\"},\"bytes\":\"018601000100\"}\n"
unfolding row_of number_in characters digits lib.Utf8.encode
a_form_as_an_object = refl

numbers_as_an_array : facts_json [] (opcode_facts (0x14 ∷ 10 ∷ 34 ∷ 0 ∷ 2 ∷ 0 ∷ 0x9a ∷ 2 ∷ 0x9b ∷ 2 ∷ [])) ≡ codes "\"QuestionId\":34,\"ListLength\":2,\"ValueList\":[666,667]"
unfolding row_of number_in digits
numbers_as_an_array = refl

flags_as_a_number : facts_json english (opcode_facts (0x02 ∷ 0x87 ∷ 9 ∷ 0 ∷ 0 ∷ 0 ∷ 0x1f ∷ [])) ≡ codes "\"Prompt\":9,\"PromptText\":\"#9\",\"Help\":0,\"Flags\":31"
unfolding row_of number_in characters digits lib.Utf8.encode
flags_as_a_number = refl

no_fields : facts_json [] (opcode_facts (0x29 ∷ 2 ∷ [])) ≡ []
unfolding row_of
no_fields = refl

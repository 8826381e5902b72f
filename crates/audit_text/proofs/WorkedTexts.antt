-- Texts that were worked out by hand.
use Rattle.std.proofs.Common.{◌≡◌, ℕ, true, false, List, [], ◌∷◌, ◌++◌, refl}
use Rattle.std.specs.Prelude.{codes}
use Rattle.audit_text.specs.Texts.{guid_text, left_aligned, ascii_name, language_name, safe_text}
use Rattle.audit_text.specs.Words.{opcode_name, attributes_text}

-- the bytes of 6D1E5A10-7C4B-4E0A-9A31-225C60880F01
abbrev station : List ℕ
station = 0x10 ∷ 0x5a ∷ 0x1e ∷ 0x6d ∷ 0x4b ∷ 0x7c ∷ 0x0a ∷ 0x4e ∷ 0x9a ∷ 0x31 ∷ 0x22 ∷ 0x5c ∷ 0x60 ∷ 0x88 ∷ 0x0f ∷ 0x01 ∷ []

as_the_registry_writes_it : guid_text true station ≡ codes "6D1E5A10-7C4B-4E0A-9A31-225C60880F01"
as_the_registry_writes_it = refl

as_files_are_named : guid_text false station ≡ codes "6d1e5a10-7c4b-4e0a-9a31-225c60880f01"
as_files_are_named = refl

a_short_name_is_filled : left_aligned 12 (codes "CHECKBOX") ≡ codes "CHECKBOX    "
a_short_name_is_filled = refl

a_long_name_stays : left_aligned 2 (codes "DATE") ≡ codes "DATE"
a_long_name_stays = refl

no_name : ascii_name [] ≡ codes "-"
no_name = refl

what_is_no_character_is_hidden : ascii_name (0x53 ∷ 0x0a ∷ 0x7e ∷ 0x7f ∷ 0xe4 ∷ []) ≡ codes "S?~??"
what_is_no_character_is_hidden = refl

languages_stay_apart : language_name (codes "en-US,x \n") ≡ codes "en-US?x??"
languages_stay_apart = refl

what_turns_a_line_is_a_number : safe_text (0x41 ∷ 0x9b ∷ 0x202e ∷ 0x5c ∷ []) ≡ codes "A\\u{9b}\\u{202e}\\"
unfolding lib.Utf8.encode
what_turns_a_line_is_a_number = refl

an_opcode : opcode_name 0x23 ≡ codes "ORDERED_LIST"
an_opcode = refl

the_last_opcode : opcode_name 0x64 ≡ codes "MATCH2"
the_last_opcode = refl

numbers_without_a_name : opcode_name 0x00 ++ opcode_name 0x65 ≡ []
numbers_without_a_name = refl

two_attributes : attributes_text 0x3 ≡ codes "NV+BS"
two_attributes = refl

other_attributes_are_left_out : attributes_text 0x27 ≡ codes "NV+BS+RT"
other_attributes_are_left_out = refl

no_attribute : attributes_text 0x20 ≡ codes "-"
no_attribute = refl

-- Lines that were worked out by hand.
use Rattle.std.proofs.Common.{◌≡◌, ℕ, Some, None, List, [], ◌∷◌, replicate, refl}
use Rattle.std.specs.Prelude.{codes}
use Rattle.std.specs.Fmt.{digits}
use Rattle.browser_rules.specs.Words.{number_in}
use Rattle.hii_bytes.specs.declared.cause.Cause.TheVariants.{StringBlock}
use Rattle.hii_packages.specs.laws.Spelling.{placed}
use Rattle.browser_rules.specs.Strings.{Spoken, characters}
use Rattle.dump_audit.specs.Findings.{Refused}
use Rattle.dump_audit.specs.Lines.{contents_text, line, no_list_text, rest_line}

-- a forms package with a FORM_SET and nothing else: its title has the string id 1
abbrev forms : List ℕ
forms = 27 ∷ 0 ∷ 0 ∷ 2 ∷ 0x0e ∷ 23 ∷ 0x10 ∷ 0x5a ∷ 0x1e ∷ 0x6d ∷ 0x4b ∷ 0x7c ∷ 0x0a ∷ 0x4e ∷ 0x9a ∷ 0x31 ∷ 0x22 ∷ 0x5c ∷ 0x60 ∷ 0x88 ∷ 0x0f ∷ 0x01 ∷ 1 ∷ 0 ∷ 2 ∷ 0 ∷ 0 ∷ []

-- a forms package that ends before the flags of its FORM_SET
abbrev cut : List ℕ
cut = 26 ∷ 0 ∷ 0 ∷ 2 ∷ 0x0e ∷ 23 ∷ replicate 20 0

abbrev english : Spoken
english = record { language = codes "en-US"; texts = Some (0x52 ∷ 0 ∷ 0x78 ∷ 0 ∷ []) ∷ [] }

abbrev german : Spoken
german = record { language = codes "de-DE"; texts = None ∷ [] }

a_form_set_in_two_languages : contents_text (placed 20 (forms ∷ [])) (english ∷ german ∷ []) ≡ codes "forms 1 6D1E5A10-7C4B-4E0A-9A31-225C60880F01 strings en-US,de-DE Rx"
unfolding number_in digits characters lib.Utf8.encode
a_form_set_in_two_languages = refl

a_title_without_a_text : contents_text (placed 20 (cut ∷ forms ∷ [])) (german ∷ english ∷ []) ≡ codes "forms 2 6D1E5A10-7C4B-4E0A-9A31-225C60880F01 strings de-DE,en-US #1"
unfolding number_in digits lib.Utf8.encode
a_title_without_a_text = refl

-- its language would end a line, and its text turn it
abbrev hostile : Spoken
hostile = record { language = codes "x,y\nLIST"; texts = Some (0x2e ∷ 0x20 ∷ 0x78 ∷ 0 ∷ []) ∷ [] }

no_text_breaks_a_line : contents_text (placed 20 (forms ∷ [])) (hostile ∷ []) ≡ codes "forms 1 6D1E5A10-7C4B-4E0A-9A31-225C60880F01 strings x?y?LIST \\u{202e}x"
unfolding number_in digits characters lib.Utf8.encode
no_text_breaks_a_line = refl

no_packages : contents_text [] [] ≡ codes "forms 0 strings -"
unfolding digits
no_packages = refl

a_list_is_refused : line 2 record { entry = record { place = 0xa3a; bytes = replicate 20 0 }; finding = Refused record { cause = StringBlock; place = 0x2d } } ≡ codes "LIST 2 00000a3a 20 REFUSED 8 StringBlock at 0000002d\n"
unfolding digits
a_list_is_refused = refl

a_rest : rest_line 0xd74 (1 ∷ 2 ∷ 3 ∷ 4 ∷ []) ≡ codes "REST 00000d74 4\n"
unfolding digits
a_rest = refl

no_rest : rest_line 0xd74 [] ≡ []
no_rest = refl

no_list : no_list_text 3 ≡ codes "NO LIST 3\n"
unfolding digits
no_list = refl

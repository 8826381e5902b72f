-- The objects of a dump (own rule).
use Rattle.std.specs.Prelude.{ℕ, true, Option, None, Some, List, [], ◌∷◌, ◌++◌, length, map, codes, decimal}
use Rattle.browser_rules.specs.Packages.{Package}
use Rattle.browser_rules.specs.Strings.{Spoken, shown}
use Rattle.hii_dumps.specs.Dumps.{Entry}
use Rattle.ifr_opcodes.specs.Fields.{form_set_guid}
use Rattle.audit_text.specs.Texts.{guid_text}
use Rattle.audit_json.specs.Json.{json_text}
use Rattle.audit_json.specs.Objects.{array_member, fault_member, number_member, object, quoted, text_member, word_member}
use Rattle.dump_audit.specs.Contents.{first_title, form_sets, forms_in, opcodes_of}
use Rattle.dump_audit.specs.Findings.{Contents, Finding, Refused}

-- which list an object is of: its number, its place in the dump and its length in bytes
abbrev pub head_members : ℕ → Entry → List ℕ
head_members number list =
    number_member (codes "number") number ++ number_member (codes "at") list.place
    ++ number_member (codes "size") (length list.bytes)

abbrev pub guid_value : Package → List ℕ
guid_value p = quoted (guid_text true (form_set_guid (opcodes_of p)))

abbrev pub guids_member : List Package → List ℕ
guids_member packages = array_member (codes "guids") (map guid_value (form_sets packages))

abbrev pub languages_member : List (List ℕ) → List ℕ
languages_member languages = array_member (codes "languages") (map json_text languages)

abbrev pub title_member : List Spoken → Option ℕ → List ℕ
title_member spoken None = []
title_member spoken (Some id) = text_member (codes "title") (shown spoken (Some 0) id)

-- what the packages of a list are
abbrev pub contents_members : List Package → List Spoken → List ℕ
contents_members packages spoken =
    number_member (codes "forms") (length (forms_in packages)) ++ guids_member packages
    ++ languages_member (map (λ s. s.language) spoken)
    ++ title_member spoken (first_title (form_sets packages))

abbrev pub finding_members : Finding → List ℕ
finding_members (Contents packages spoken) = contents_members packages spoken
finding_members (Refused fault) = fault_member (codes "fault") fault

abbrev pub list_object : ℕ → Entry → Finding → List ℕ
list_object number list finding =
    object (codes "list") (head_members number list ++ finding_members finding)

-- the rest at a place of the dump, where it has some bytes
abbrev pub rest_object : ℕ → List ℕ → List ℕ
rest_object place [] = []
rest_object place (byte ∷ bytes) =
    object (codes "rest") (number_member (codes "at") place
    ++ number_member (codes "size") (length (byte ∷ bytes)))

-- that there is no list of a number
abbrev pub no_list_object : ℕ → List ℕ
no_list_object number =
    object (codes "error") (word_member (codes "text") (codes "NO LIST " ++ decimal number))

-- How what is found of a forms package is told (own rule).
use Rattle.std.specs.Prelude.{ℕ, ◌+◌, ◌^◌, nat_lt, if◌then◌else◌, true, false, Option, Some, None, List, [], ◌++◌, codes, decimal}
use Rattle.std.specs.List.{flat_map}
use Rattle.browser_rules.specs.Opcodes.{number}
use Rattle.browser_rules.specs.Packages.{Package}
use Rattle.browser_rules.specs.Strings.{Spoken, shown}
use Rattle.hii_bytes.specs.Cause.{name_of, number_of}
use Rattle.hii_bytes.specs.Texts.{place_text}
use Rattle.hii_bytes.specs.declared.cause.Cause.{Cause}
use Rattle.hii_bytes.specs.declared.cause.Cause.TheVariants.{NoForms}
use Rattle.hii_bytes.specs.declared.cause.Fault.{Fault}
use Rattle.ifr_opcodes.specs.Fields.{form_set_guid, form_set_title}
use Rattle.ifr_nodes.specs.Nodes.{nodes_of}
use Rattle.session_steps.specs.Texts.{refused_at_text}
use Rattle.audit_text.specs.Texts.{digits_of, guid_text, hex_text, left_aligned, safe_text}
use Rattle.audit_json.specs.Objects.{cause_members, guid_member, number_member, object, refused_at_object, text_member, word_member}
use Rattle.audit_json.specs.Telling.{told_as}
use Rattle.audit_json.specs.declared.telling.Telling.{Telling}
use Rattle.dump_audit.specs.Contents.{begins_with_form_set, opcodes_of}
use Rattle.opcode_audit.specs.Words.{name_or_number}
use Rattle.check_audit.specs.Behind.{opcode_at, seen_before}
use Rattle.check_audit.specs.Lacks.{Lack}
use Rattle.check_audit.specs.Mostly.{mostly_at, mostly_of}
use Rattle.check_audit.specs.WarningLines.{warnings_told}
use Rattle.check_audit.specs.Warnings.{crossed_spans}
use Rattle.check_audit.specs.declared.behind.Named.{Named}
use Rattle.check_audit.specs.declared.verdict.Counts.{Counts}
use Rattle.check_audit.specs.declared.verdict.Good.{Good}
use Rattle.check_audit.specs.declared.verdict.Verdict.{Verdict}
use Rattle.check_audit.specs.declared.verdict.Verdict.TheVariants.{Good as IsGood, Refused}

-- How a forms package is told, by what is said of string ids, what further string packages lack, and its offset in the file that was
-- given.
pub record Setting : Type 0 where
  pub telling : Telling
  pub spoken : List Spoken
  pub lacks : List Lack
  pub base : ℕ

-- what is shown of a string id
abbrev pub text_of : List Spoken → ℕ → List ℕ
text_of spoken id = shown spoken (Some 0) id

-- the word with which a line begins
abbrev pub begun : List ℕ → List ℕ
begun word = left_aligned 9 word

-- ---- by which fault a list or a forms package is refused

-- as setup tells it
abbrev pub fault_told : Telling → Fault → List ℕ
fault_told telling fault = told_as telling (refused_at_text fault) (refused_at_object fault)

abbrev pub byte_line : ℕ → List ℕ
byte_line byte = begun (codes "byte") ++ hex_text byte ++ codes " of the file\n"

abbrev pub byte_object : ℕ → List ℕ
byte_object byte = object (codes "byte") (number_member (codes "byte") byte)

-- a byte of the file, whose offset has 64 bits
abbrev pub byte_told : Telling → ℕ → List ℕ
byte_told telling byte =
    if nat_lt byte (2 ^ 64) then told_as telling (byte_line byte) (byte_object byte) else []

abbrev pub opcode_line : List ℕ → List ℕ
opcode_line op =
    begun (codes "opcode") ++ name_or_number (number op) ++ codes " " ++ digits_of false op ++ codes "\n"

abbrev pub opcode_object : List ℕ → List ℕ
opcode_object op =
    object (codes "opcode") (word_member (codes "opcode") (name_or_number (number op))
    ++ number_member (codes "code") (number op) ++ word_member (codes "bytes") (digits_of false op))

abbrev pub opcode_told : Telling → Option (List ℕ) → List ℕ
opcode_told telling None = []
opcode_told telling (Some op) = told_as telling (opcode_line op) (opcode_object op)

-- a form or a question behind a word
abbrev pub named_line : Setting → List ℕ → Named → List ℕ
named_line s word n =
    begun word ++ decimal n.id ++ codes " " ++ safe_text (text_of s.spoken n.text) ++ codes "\n"

abbrev pub named_object : Setting → List ℕ → Named → List ℕ
named_object s word n =
    object word (number_member (codes "id") n.id ++ text_member (codes "text") (text_of s.spoken n.text))

abbrev pub named_told : Setting → List ℕ → Option Named → List ℕ
named_told s word None = []
named_told s word (Some n) = told_as s.telling (named_line s word n) (named_object s word n)

abbrev pub mostly_line : List ℕ → List ℕ
mostly_line text = begun (codes "mostly") ++ text ++ codes "\n"

abbrev pub mostly_object : List ℕ → List ℕ
mostly_object text = object (codes "mostly") (word_member (codes "text") text)

abbrev pub mostly_told : Telling → List ℕ → List ℕ
mostly_told telling text = told_as telling (mostly_line text) (mostly_object text)

-- of a forms package: the fault, its byte in the file, the opcode there, the form and the question before it, and what it mostly
-- comes from
abbrev pub refusal_told : Setting → List ℕ → Fault → List ℕ
refusal_told s ifr fault =
    fault_told s.telling fault ++ byte_told s.telling (s.base + fault.place)
    ++ opcode_told s.telling (opcode_at ifr fault.place)
    ++ named_told s (codes "form") (seen_before ifr fault.place).form
    ++ named_told s (codes "behind") (seen_before ifr fault.place).question
    ++ mostly_told s.telling (mostly_at fault.cause (opcode_at ifr fault.place))

-- another fault of the same pass, with its byte in the file
abbrev pub also_line : Fault → ℕ → List ℕ
also_line fault byte =
    begun (codes "also") ++ decimal (number_of fault.cause) ++ codes " " ++ name_of fault.cause ++ codes " at "
    ++ place_text fault.place ++ codes ", byte " ++ hex_text byte ++ codes " of the file\n"

abbrev pub also_object : Fault → ℕ → List ℕ
also_object fault byte =
    object (codes "also") (cause_members fault.cause ++ number_member (codes "at") fault.place
    ++ number_member (codes "byte") byte)

-- where the offset of the byte has 64 bits
abbrev pub also_told : Telling → ℕ → Fault → List ℕ
also_told telling base fault =
    if nat_lt (base + fault.place) (2 ^ 64)
    then told_as telling (also_line fault (base + fault.place)) (also_object fault (base + fault.place)) else []

abbrev pub others_told : Telling → ℕ → List Fault → List ℕ
others_told telling base others = flat_map (also_told telling base) others

-- that there is no forms package has no byte
abbrev pub list_byte_told : Telling → Cause → ℕ → List ℕ
list_byte_told telling NoForms byte = []
list_byte_told telling cause byte = byte_told telling byte

-- of a list that begins at an offset of the file
abbrev pub list_refusal_told : Telling → ℕ → Fault → List ℕ
list_refusal_told telling start fault =
    fault_told telling fault ++ list_byte_told telling fault.cause (start + fault.place)
    ++ mostly_told telling (mostly_of fault.cause)

-- ---- which forms package it is, and how much it has

-- the GUID and the title of the form set with which a forms package begins
abbrev pub form_set_words : List Spoken → Package → List ℕ
form_set_words spoken p =
    if begins_with_form_set p
    then guid_text true (form_set_guid (opcodes_of p)) ++ codes " "
    ++ safe_text (text_of spoken (form_set_title (opcodes_of p)))
    else codes "-"

abbrev pub form_set_members : List Spoken → Package → List ℕ
form_set_members spoken p =
    if begins_with_form_set p
    then guid_member (codes "guid") (form_set_guid (opcodes_of p))
    ++ text_member (codes "title") (text_of spoken (form_set_title (opcodes_of p)))
    else []

abbrev pub head_line : Setting → ℕ → Package → List ℕ
head_line s number p =
    codes "FORMS " ++ decimal number ++ codes " " ++ form_set_words s.spoken p ++ codes "\n"

abbrev pub head_object : Setting → ℕ → Package → List ℕ
head_object s number p =
    object (codes "forms") (number_member (codes "package") number ++ number_member (codes "at") s.base
    ++ form_set_members s.spoken p)

abbrev pub head_told : Setting → ℕ → Package → List ℕ
head_told s number p = told_as s.telling (head_line s number p) (head_object s number p)

abbrev pub good_line : Counts → List ℕ
good_line counts =
    codes "GOOD " ++ decimal counts.forms ++ codes " forms, " ++ decimal counts.questions ++ codes " questions, "
    ++ decimal counts.stores ++ codes " stores\n"

abbrev pub good_object : Counts → List ℕ
good_object counts =
    object (codes "good") (number_member (codes "forms") counts.forms
    ++ number_member (codes "questions") counts.questions ++ number_member (codes "stores") counts.stores)

abbrev pub good_told : Telling → Counts → List ℕ
good_told telling counts = told_as telling (good_line counts) (good_object counts)

-- that a forms package is good, and what is strange of it
abbrev pub warned_told : Setting → List ℕ → Good → List ℕ
warned_told s ifr good =
    good_told s.telling good.counts
    ++ warnings_told s.telling record { spans = crossed_spans (nodes_of ifr); nodes = nodes_of ifr; lacks = s.lacks } good.warnings.items

-- what is found of a forms package
abbrev pub verdict_told : Setting → List ℕ → Verdict → List ℕ
verdict_told s ifr (IsGood good) = warned_told s ifr good
verdict_told s ifr (Refused r) = refusal_told s ifr r.fault ++ others_told s.telling s.base r.others.items

abbrev pub package_told : Setting → ℕ → Package → Verdict → List ℕ
package_told s number p verdict = head_told s number p ++ verdict_told s p.bytes verdict

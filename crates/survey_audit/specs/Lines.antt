-- What is told of a forms package of a dump, of its stores and of its faults (own rule).
use Rattle.std.specs.Prelude.{ℕ, true, if◌then◌else◌, List, [], ◌++◌, codes, decimal}
use Rattle.browser_rules.specs.Packages.{Package}
use Rattle.browser_rules.specs.Strings.{Spoken}
use Rattle.hii_bytes.specs.Texts.{fault_text}
use Rattle.hii_bytes.specs.declared.cause.Cause.{Cause}
use Rattle.hii_bytes.specs.declared.cause.Cause.TheVariants.{NoForms}
use Rattle.hii_bytes.specs.declared.cause.Fault.{Fault}
use Rattle.ifr_opcodes.specs.Fields.{form_set_guid}
use Rattle.ifr_opcodes.specs.Forest.{Node}
use Rattle.audit_json.specs.Objects.{fault_member, guid_member, member, number_member, object}
use Rattle.audit_json.specs.Telling.{told_as}
use Rattle.audit_json.specs.declared.telling.Telling.{Telling}
use Rattle.audit_text.specs.Texts.{guid_text}
use Rattle.dump_audit.specs.Contents.{begins_with_form_set, opcodes_of}
use Rattle.store_audit.specs.Fillings.{refused_line, refused_string}
use Rattle.store_audit.specs.declared.fillings.Source.{Source}
use Rattle.check_audit.specs.Lines.{form_set_members, form_set_words}
use Rattle.survey_audit.specs.declared.counts.Counts.{Counts}
use Rattle.survey_audit.specs.declared.tally.Tally.{Tally}

-- How a forms package is told: the number of its list in the dump and its own in the list, counted from 1, what the first string package
-- of the list says, the package, and its offset in the dump.
pub record Heading : Type 0 where
  pub telling : Telling
  pub list : ℕ
  pub number : ℕ
  pub spoken : List Spoken
  pub source : Package
  pub base : ℕ

-- the numbers
abbrev pub numbers_words : Heading → List ℕ
numbers_words h = decimal h.list ++ codes " " ++ decimal h.number ++ codes " "

abbrev pub numbers_members : Heading → List ℕ
numbers_members h = number_member (codes "list") h.list ++ number_member (codes "package") h.number

-- the numbers, the GUID and the title, which are those of `check`
abbrev pub head_words : Heading → List ℕ
head_words h = codes "SET " ++ numbers_words h ++ form_set_words h.spoken h.source ++ codes ": "

abbrev pub head_members : Heading → List ℕ
head_members h = numbers_members h ++ form_set_members h.spoken h.source

-- ---- how many questions stand so

abbrev pub tally_words : Tally → List ℕ
tally_words t =
    codes "open " ++ decimal t.changeable ++ codes ", grayed " ++ decimal t.grayed
    ++ codes ", hidden " ++ decimal t.hidden ++ codes ", disabled " ++ decimal t.disabled
    ++ codes ", fixed " ++ decimal t.fixed ++ codes ", constant " ++ decimal t.constant

abbrev pub counts_words : Counts → List ℕ
counts_words c =
    codes "forms " ++ decimal c.forms ++ codes ", questions " ++ decimal c.questions ++ codes ", "
    ++ tally_words c.tally

abbrev pub tally_members : Tally → List ℕ
tally_members t =
    number_member (codes "open") t.changeable ++ number_member (codes "grayed") t.grayed
    ++ number_member (codes "hidden") t.hidden ++ number_member (codes "disabled") t.disabled
    ++ number_member (codes "fixed") t.fixed ++ number_member (codes "constant") t.constant

abbrev pub counts_members : Counts → List ℕ
counts_members c =
    number_member (codes "forms") c.forms ++ number_member (codes "questions") c.questions
    ++ tally_members c.tally

abbrev pub counts_line : Heading → Counts → List ℕ
counts_line h c = head_words h ++ counts_words c ++ codes "\n"

abbrev pub counts_object : Heading → Counts → List ℕ
counts_object h c = object (codes "set") (head_members h ++ counts_members c)

abbrev pub counts_told : Heading → Counts → List ℕ
counts_told h c = told_as h.telling (counts_line h c) (counts_object h c)

-- ---- a store that is not given what it holds, in the words of `image`

abbrev pub unfit_line : Heading → Node → Source → List ℕ
unfit_line h n source = head_words h ++ refused_line n source

abbrev pub unfit_object : Heading → Node → Source → List ℕ
unfit_object h n source =
    object (codes "set") (head_members h ++ member (codes "reason") (refused_string n source))

abbrev pub unfit_told : Heading → Node → Source → List ℕ
unfit_told h n source = told_as h.telling (unfit_line h n source) (unfit_object h n source)

-- ---- a fault of a forms package

-- the GUID, where the package begins with a form set
abbrev pub guid_words : Package → List ℕ
guid_words p =
    if begins_with_form_set p then guid_text true (form_set_guid (opcodes_of p)) else codes "-"

abbrev pub guid_members : Package → List ℕ
guid_members p =
    if begins_with_form_set p then guid_member (codes "guid") (form_set_guid (opcodes_of p)) else []

abbrev pub fault_line : Heading → Fault → List ℕ
fault_line h fault =
    codes "SET " ++ numbers_words h ++ guid_words h.source ++ codes " " ++ fault_text fault
    ++ codes "\n"

abbrev pub fault_object : Heading → Fault → List ℕ
fault_object h fault =
    object (codes "set")
    (numbers_members h ++ guid_members h.source ++ fault_member (codes "fault") fault)

abbrev pub fault_told : Heading → Fault → List ℕ
fault_told h fault = told_as h.telling (fault_line h fault) (fault_object h fault)

-- ---- a fault of a list as a whole

abbrev pub list_fault_line : ℕ → Fault → List ℕ
list_fault_line list fault =
    codes "SET " ++ decimal list ++ codes " - - " ++ fault_text fault ++ codes "\n"

abbrev pub list_fault_object : ℕ → Fault → List ℕ
list_fault_object list fault =
    object (codes "set") (number_member (codes "list") list ++ fault_member (codes "fault") fault)

-- of a list that has no forms package nothing is told
abbrev pub unless_none : Cause → List ℕ → List ℕ
unless_none NoForms text = []
unless_none cause text = text

abbrev pub list_fault_told : Telling → ℕ → Fault → List ℕ
list_fault_told telling list fault =
    unless_none fault.cause
    (told_as telling (list_fault_line list fault) (list_fault_object list fault))

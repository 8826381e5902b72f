-- How warnings are told (own rule).
use Rattle.std.specs.Prelude.{ℕ, Bool, ◌==◌, if◌then◌else◌, Option, Some, None, false, List, [], ◌++◌, ◌∷◌, codes, decimal, slice_get}
use Rattle.std.specs.Fmt.{signed_decimal}
use Rattle.hii_bytes.specs.Texts.{place_text}
use Rattle.ifr_opcodes.specs.Forest.{Node, node_at}
use Rattle.ifr_opcodes.specs.Opcode.{number}
use Rattle.ifr_nodes.specs.NodeExpressions.{expression_tree}
use Rattle.condition_text.specs.Senses.{sense}
use Rattle.condition_text.specs.Texts.{text}
use Rattle.hii_values.specs.Denials.{kind_name}
use Rattle.hii_values.specs.declared.denial.DenialKind.{DenialKind}
use Rattle.audit_text.specs.Texts.{language_name}
use Rattle.audit_text.specs.Words.{opcode_name}
use Rattle.audit_json.specs.Objects.{member, number_member, object, text_member, true_member, word_member}
use Rattle.audit_json.specs.Telling.{told_as}
use Rattle.audit_json.specs.declared.telling.Telling.{Telling}
use Rattle.check_audit.specs.Lacks.{Lack}
use Rattle.check_audit.specs.Warnings.{order_of}
use Rattle.check_audit.specs.declared.warning.Oddity.{Oddity}
use Rattle.check_audit.specs.declared.warning.Oddity.TheVariants.{Asks, Bounds, Constant, Default, Language, Overlap, Text, Unreached}
use Rattle.check_audit.specs.declared.warning.Refused.{Refused}
use Rattle.check_audit.specs.declared.warning.Sharing.{Sharing}
use Rattle.check_audit.specs.declared.warning.Span.{Span}
use Rattle.check_audit.specs.declared.warning.Unanswered.{Unanswered}
use Rattle.check_audit.specs.declared.warning.Warning.{Warning}

-- what warnings tell by a number: the bounds that nothing can meet, and the string packages that lack texts; and by their
-- place: the nodes of the package
pub record Details : Type 0 where
  pub spans : List Span
  pub nodes : List Node
  pub lacks : List Lack

abbrev pub word_of : Oddity → List ℕ
word_of (Asks unanswered) = codes "asks"
word_of (Bounds n) = codes "bounds"
word_of (Constant holds) = codes "constant"
word_of (Default refused) = codes "default"
word_of (Language n) = codes "language"
word_of (Overlap sharing) = codes "overlap"
word_of (Text id) = codes "text"
word_of (Unreached form) = codes "unreached"

-- ---- in a line

abbrev pub lack_of : Bool → List ℕ
lack_of is_there = if is_there then codes ": it has no answer here" else codes ": no such question"

abbrev pub asks_text : Unanswered → List ℕ
asks_text u = decimal u.question ++ lack_of u.is_there

-- of the bounds that nothing can meet those of a number
abbrev pub bounds_text : Option Span → List ℕ
bounds_text None = []
bounds_text (Some span) = signed_decimal span.minimum ++ codes " is above " ++ signed_decimal span.maximum

abbrev pub verdict_word : Bool → List ℕ
verdict_word holds = if holds then codes " holds: " else codes " does not hold: "

-- of the guard at the place, whose condition names no question
abbrev pub constant_text : Bool → Option Node → List ℕ
constant_text holds None = []
constant_text holds (Some g) = opcode_name (number g.op) ++ verdict_word holds ++ text (sense (expression_tree g))

abbrev pub denial_word : Option DenialKind → List ℕ
denial_word None = codes "no text"
denial_word (Some kind) = kind_name kind

abbrev pub default_text : Refused → List ℕ
default_text refused =
    decimal refused.class ++ codes " of question " ++ decimal refused.question ++ codes ": " ++ denial_word refused.denial

-- of the string packages that lack texts one by its number
abbrev pub lack_text : Option Lack → List ℕ
lack_text None = []
lack_text (Some lack) =
    language_name lack.language ++ codes ": " ++ decimal lack.lacks ++ codes " of " ++ decimal lack.texts
    ++ codes " texts are those of " ++ language_name lack.first

abbrev pub overlap_text : Sharing → List ℕ
overlap_text sharing =
    codes "question " ++ decimal sharing.question ++ codes " shares bytes with question " ++ decimal sharing.other

abbrev pub textless_text : ℕ → List ℕ
textless_text id = decimal id ++ codes ": no text"

abbrev pub unreached_text : ℕ → List ℕ
unreached_text form = codes "no reference names form " ++ decimal form

abbrev pub oddity_text : Details → ℕ → Oddity → List ℕ
oddity_text d place (Asks unanswered) = asks_text unanswered
oddity_text d place (Bounds n) = bounds_text (slice_get d.spans n)
oddity_text d place (Constant holds) = constant_text holds (node_at d.nodes place)
oddity_text d place (Default refused) = default_text refused
oddity_text d place (Language n) = lack_text (slice_get d.lacks n)
oddity_text d place (Overlap sharing) = overlap_text sharing
oddity_text d place (Text id) = textless_text id
oddity_text d place (Unreached form) = unreached_text form

abbrev pub warning_line : Details → Warning → List ℕ
warning_line d w =
    codes "WARN " ++ place_text w.place ++ codes " " ++ word_of w.oddity ++ codes " " ++ oddity_text d w.place w.oddity
    ++ codes "\n"

-- ---- in an object

abbrev pub bounds_members : Option Span → List ℕ
bounds_members None = []
bounds_members (Some span) =
    member (codes "minimum") (signed_decimal span.minimum) ++ member (codes "maximum") (signed_decimal span.maximum)

abbrev pub holds_member : Bool → List ℕ
holds_member holds = if holds then true_member (codes "holds") else []

abbrev pub constant_members : Bool → Option Node → List ℕ
constant_members holds None = []
constant_members holds (Some g) =
    holds_member holds ++ word_member (codes "condition") (text (sense (expression_tree g)))

abbrev pub default_members : Refused → List ℕ
default_members refused =
    number_member (codes "class") refused.class ++ number_member (codes "question") refused.question
    ++ word_member (codes "denial") (denial_word refused.denial)

abbrev pub lack_members : Option Lack → List ℕ
lack_members None = []
lack_members (Some lack) =
    text_member (codes "language") lack.language ++ number_member (codes "lacks") lack.lacks
    ++ number_member (codes "texts") lack.texts

abbrev pub overlap_members : Sharing → List ℕ
overlap_members sharing =
    number_member (codes "question") sharing.question ++ number_member (codes "other") sharing.other

abbrev pub oddity_members : Details → ℕ → Oddity → List ℕ
oddity_members d place (Asks unanswered) = number_member (codes "id") unanswered.question
oddity_members d place (Bounds n) = bounds_members (slice_get d.spans n)
oddity_members d place (Constant holds) = constant_members holds (node_at d.nodes place)
oddity_members d place (Default refused) = default_members refused
oddity_members d place (Language n) = lack_members (slice_get d.lacks n)
oddity_members d place (Overlap sharing) = overlap_members sharing
oddity_members d place (Text id) = number_member (codes "id") id
oddity_members d place (Unreached form) = number_member (codes "form") form

abbrev pub warning_object : Details → Warning → List ℕ
warning_object d w =
    object (codes "warning") (number_member (codes "at") w.place ++ word_member (codes "word") (word_of w.oddity)
    ++ oddity_members d w.place w.oddity)

abbrev pub warning_told : Telling → Details → Warning → List ℕ
warning_told telling d w = told_as telling (warning_line d w) (warning_object d w)

-- ---- each once

-- whether a warning is of the place, the word and the id of the last one
abbrev pub comes_again : Option ℕ → Warning → Bool
comes_again None w = false
comes_again (Some last) w = last == order_of w

abbrev pub unlike_told : Telling → Details → Option ℕ → Warning → List ℕ
unlike_told telling d last w = if comes_again last w then [] else warning_told telling d w

-- warnings one behind the other: an expression may name a question more than once
abbrev pub warnings_behind : Telling → Details → Option ℕ → List Warning → List ℕ
warnings_behind telling d last [] = []
warnings_behind telling d last (w ∷ ws) =
    unlike_told telling d last w ++ warnings_behind telling d (Some (order_of w)) ws

abbrev pub warnings_told : Telling → Details → List Warning → List ℕ
warnings_told telling d ws = warnings_behind telling d None ws

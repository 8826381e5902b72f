-- Members that objects of questions share (own rule).
use Rattle.std.specs.Prelude.{ℕ, ◌+◌, Bool, if◌then◌else◌, List, [], ◌++◌, codes}
use Rattle.ifr_opcodes.specs.Forest.{Node}
use Rattle.hii_values.specs.Denials.{kind_name}
use Rattle.guard_policy.specs.declared.denial.Denial.{Denial}
use Rattle.audit_json.specs.Objects.{number_member, text_member, true_member, word_member}
use Rattle.question_audit.specs.QuestionLines.{has_no_text}

-- a text that is shown; of one without characters there is no member
abbrev pub shown_member : List ℕ → List ℕ → List ℕ
shown_member key text = if has_no_text text then [] else text_member key text

-- a fact, where it is so
abbrev pub member_where : Bool → List ℕ → List ℕ
member_where holds key = if holds then true_member key else []

-- the place of an opcode in its forms package, and its byte in the file, where the package stands at a place
abbrev pub place_members : ℕ → Node → List ℕ
place_members package_place n =
    number_member (codes "at") n.place ++ number_member (codes "byte") (package_place + n.place)

-- what forbids, and where: the kind of a denial, and the place that decides
abbrev pub denial_members : List ℕ → List ℕ → Denial → List ℕ
denial_members key place_key denial =
    word_member key (kind_name denial.kind) ++ number_member place_key denial.place

-- Whether a question may be changed (own rule).
use Rattle.std.specs.Prelude.{ℕ, Option, Some, None, List, ◌++◌, codes, decimal, map}
use Rattle.ifr_opcodes.specs.Forest.{Node}
use Rattle.hii_values.specs.Denials.{kind_name}
use Rattle.hii_questions.specs.Fields.{Asked}
use Rattle.guard_policy.specs.Policy.{fixed}
use Rattle.guard_policy.specs.declared.denial.Denial.{Denial}
use Rattle.audit_json.specs.Objects.{array_member, first_member, inner_object, number_member, quoted, word_member}
use Rattle.question_audit.specs.Audited.{Audited}
use Rattle.question_audit.specs.QuestionLines.{is_constant, undefined_guards}
use Rattle.question_audit.specs.Reasons.{all_reasons, further}
use Rattle.question_objects.specs.Members.{denial_members, member_where}

-- what `why` answers: that it may, or the first of all reasons
abbrev pub verdict_members : Option Denial → List ℕ
verdict_members None = word_member (codes "verdict") (codes "open")
verdict_members (Some denial) = denial_members (codes "verdict") (codes "decider") denial

-- whether what decides is a guard that names no question
abbrev pub constant_member : Audited → Node → List ℕ
constant_member a n = member_where (is_constant a.world.nodes n (fixed a.world n)) (codes "constant")

-- the other reasons
abbrev pub reason_object : Denial → List ℕ
reason_object denial =
    inner_object
    (first_member (codes "kind") (quoted (kind_name denial.kind)) ++ number_member (codes "at") denial.place)

abbrev pub also_member : List Denial → List ℕ
also_member denials = array_member (codes "also") (map reason_object (further denials))

-- the places of the guards around it whose conditions are undefined
abbrev pub place_of : Node → List ℕ
place_of g = decimal g.place

abbrev pub undefined_member : Audited → Node → List ℕ
undefined_member a n = array_member (codes "undefined") (map place_of (undefined_guards a n))

abbrev pub all_verdict_members : Audited → Asked → List ℕ
all_verdict_members a q =
    verdict_members (fixed a.world q.node) ++ constant_member a q.node
    ++ also_member (all_reasons a.world q) ++ undefined_member a q.node

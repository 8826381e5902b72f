-- All questions of a form set, as objects (own rule).
use Rattle.std.specs.Prelude.{ℕ, Bool, if◌then◌else◌, Some, List, [], ◌++◌, codes, filter}
use Rattle.std.specs.List.{flat_map}
use Rattle.ifr_opcodes.specs.Fields.{form_id, form_title, rule_id}
use Rattle.ifr_opcodes.specs.Forest.{Node}
use Rattle.ifr_opcodes.specs.Opcode.{number}
use Rattle.ifr_nodes.specs.Guards.{is_guard}
use Rattle.ifr_nodes.specs.Nodes.{is_form}
use Rattle.ifr_nodes.specs.Rules.{is_rule}
use Rattle.hii_questions.specs.Fields.{asked}
use Rattle.audit_json.specs.Objects.{number_member, object, word_member}
use Rattle.audit_text.specs.Words.{opcode_name}
use Rattle.question_audit.specs.Audited.{Audited}
use Rattle.question_audit.specs.FormLines.{form_questions}
use Rattle.question_audit.specs.Reach.{reach_of}
use Rattle.question_audit.specs.declared.ways.Reach.{Reach}
use Rattle.question_audit.specs.declared.ways.Reach.TheVariants.{Open, Hidden, Closed, Below, Unnamed}
use Rattle.question_audit.specs.ConditionFacts.{guard_state}
use Rattle.question_objects.specs.Conditions.{condition_members, rule_members}
use Rattle.question_objects.specs.Members.{denial_members, shown_member}
use Rattle.question_objects.specs.Objects.{question_members, question_object}
use Rattle.question_objects.specs.declared.detail.Detail.TheVariants.{Listed}

-- ---- forms

-- how a form is reached, and what decides on it
abbrev pub reach_members : Reach → List ℕ
reach_members Open = word_member (codes "reach") (codes "open")
reach_members (Hidden denial) = denial_members (codes "reach") (codes "decider") denial
reach_members (Closed denial) =
    word_member (codes "reach") (codes "closed") ++ number_member (codes "decider") denial.place
reach_members Below = word_member (codes "reach") (codes "below")
reach_members Unnamed = word_member (codes "reach") (codes "unnamed")

-- where a test of ids tells which forms are reached
abbrev pub form_object : Audited → (ℕ → Bool) → Node → List ℕ
form_object a is_reached form =
    object (codes "form")
    (number_member (codes "id") (form_id form.op) ++ number_member (codes "at") form.place
    ++ shown_member (codes "title") (a.texts (form_title form.op))
    ++ reach_members (reach_of a.world is_reached form))

-- a question under its form: its members, and all of its object
abbrev pub listed_members : Audited → ℕ → Node → Node → List ℕ
listed_members a package_place form n =
    question_members Listed a package_place (Some form) (asked a.world.nodes n)

abbrev pub listed_object : Audited → ℕ → Node → Node → List ℕ
listed_object a package_place form n =
    question_object Listed a package_place (Some form) (asked a.world.nodes n)

abbrev pub form_objects : Audited → (ℕ → Bool) → ℕ → Node → List ℕ
form_objects a is_reached package_place form =
    form_object a is_reached form
    ++ flat_map (listed_object a package_place form) (form_questions form)

-- ---- conditions, once for the form set

abbrev pub guard_object : Audited → ℕ → Node → List ℕ
guard_object a package_place g =
    object (codes "guard")
    (word_member (codes "opcode") (opcode_name (number g.op))
    ++ condition_members package_place g (guard_state a g))

abbrev pub rule_object : ℕ → Node → List ℕ
rule_object package_place r =
    object (codes "rule")
    (number_member (codes "rule") (rule_id r.op) ++ rule_members package_place r)

-- of a node that is a guard or a RULE
abbrev pub condition_object : Audited → ℕ → Node → List ℕ
condition_object a package_place n =
    if is_guard (number n.op) then guard_object a package_place n
    else if is_rule n then rule_object package_place n
    else []

-- ---- all of it: the forms with their questions by place, then the guards and rules by place

abbrev pub form_set_objects : Audited → (ℕ → Bool) → ℕ → List ℕ
form_set_objects a is_reached package_place =
    flat_map (form_objects a is_reached package_place) (filter is_form a.world.nodes)
    ++ flat_map (condition_object a package_place) a.world.nodes

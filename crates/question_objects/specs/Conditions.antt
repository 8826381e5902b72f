-- The conditions around a question and in it, and the rules that they name (own rule).
use Rattle.std.specs.Prelude.{ℕ, List, [], ◌++◌, codes, decimal, map}
use Rattle.ifr_opcodes.specs.Fields.{rule_id}
use Rattle.ifr_opcodes.specs.Forest.{Node}
use Rattle.ifr_opcodes.specs.Opcode.{number}
use Rattle.ifr_nodes.specs.Guards.{guards}
use Rattle.ifr_nodes.specs.NodeExpressions.{message}
use Rattle.audit_json.specs.Objects.{array_member, first_member, inner_object, quoted, word_member}
use Rattle.audit_text.specs.Words.{opcode_name}
use Rattle.question_audit.specs.Audited.{Audited}
use Rattle.question_audit.specs.ConditionFacts.{checks, condition_words, guard_state, state_text, value_at}
use Rattle.question_audit.specs.RuleFacts.{named_rules, rule_words}
use Rattle.question_objects.specs.Members.{place_members, shown_member}
use Rattle.question_objects.specs.Verdicts.{place_of}
use Rattle.question_objects.specs.declared.detail.Detail.{Detail}
use Rattle.question_objects.specs.declared.detail.Detail.TheVariants.{Alone, Listed}

-- the places of a condition, how it stands, and what it says
abbrev pub condition_members : ℕ → Node → List ℕ → List ℕ
condition_members package_place c state =
    place_members package_place c ++ word_member (codes "state") state
    ++ word_member (codes "condition") (condition_words c)

-- behind the name of its opcode
abbrev pub named_condition : ℕ → Node → List ℕ → List ℕ
named_condition package_place c state =
    first_member (codes "opcode") (quoted (opcode_name (number c.op)))
    ++ condition_members package_place c state

-- ---- the guards around it, the outermost first

-- of a question alone all that is known of each, of one that is listed with others its place
abbrev pub guard_item : Detail → Audited → ℕ → Node → List ℕ
guard_item Alone a package_place g = inner_object (named_condition package_place g (guard_state a g))
guard_item Listed a package_place g = place_of g

abbrev pub guards_member : Detail → Audited → ℕ → Node → List ℕ
guards_member detail a package_place n =
    array_member (codes "guards") (map (guard_item detail a package_place) (guards n))

-- ---- the INCONSISTENT_IFs, NO_SUBMIT_IFs and WARNING_IFs in its scope, by place

abbrev pub check_item : Audited → ℕ → Node → List ℕ
check_item a package_place c =
    inner_object
    (named_condition package_place c (state_text (value_at a c))
    ++ shown_member (codes "text") (a.texts (message c.op)))

abbrev pub checks_member : Audited → ℕ → Node → List ℕ
checks_member a package_place n =
    array_member (codes "checks") (map (check_item a package_place) (checks n))

-- ---- the rules that these, its guards and those of its options name, and those that these name in turn, by place

abbrev pub rule_members : ℕ → Node → List ℕ
rule_members package_place r =
    place_members package_place r ++ word_member (codes "condition") (rule_words r)

abbrev pub rule_item : ℕ → Node → List ℕ
rule_item package_place r =
    inner_object (first_member (codes "rule") (decimal (rule_id r.op)) ++ rule_members package_place r)

abbrev pub rules_member : Detail → List Node → ℕ → Node → List ℕ
rules_member Alone ns package_place n =
    array_member (codes "rules") (map (rule_item package_place) (named_rules ns n))
rules_member Listed ns package_place n = []

abbrev pub condition_lists : Detail → Audited → ℕ → Node → List ℕ
condition_lists detail a package_place n =
    guards_member detail a package_place n ++ checks_member a package_place n
    ++ rules_member detail a.world.nodes package_place n

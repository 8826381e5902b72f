-- The conditions around a question and in it, and the rules that they name (own rule).
use Rattle.std.specs.Prelude.{ℕ, Bool, ◌==◌, ◌||◌, bytes_eq, if◌then◌else◌, List, [], ◌++◌, codes, decimal}
use Rattle.std.specs.List.{flat_map}
use Rattle.ifr_opcodes.specs.declared.codes.TheConstants.{DISABLE_IF, SUPPRESS_IF}
use Rattle.ifr_opcodes.specs.Fields.{rule_id}
use Rattle.ifr_opcodes.specs.Forest.{Node}
use Rattle.ifr_opcodes.specs.Opcode.{number}
use Rattle.ifr_nodes.specs.Guards.{guards}
use Rattle.ifr_nodes.specs.NodeExpressions.{message}
use Rattle.hii_values.specs.Denials.{kind_name}
use Rattle.hii_values.specs.declared.denial.DenialKind.{DenialKind}
use Rattle.hii_values.specs.declared.denial.DenialKind.TheVariants.{DisableIf, SuppressIf, GrayOutIf}
use Rattle.hii_questions.specs.Fields.{Asked}
use Rattle.guard_policy.specs.Policy.{is_never_changed}
use Rattle.audit_html.specs.Html.{isolated}
use Rattle.audit_text.specs.Words.{opcode_name}
use Rattle.question_audit.specs.Audited.{Audited}
use Rattle.question_audit.specs.ConditionFacts.{checks, condition_words, guard_state, state_text, value_at}
use Rattle.question_audit.specs.Limits.{outside_text}
use Rattle.question_audit.specs.RuleFacts.{named_rules, rule_words}
use Rattle.question_rows.specs.Elements.{dim, small}
use Rattle.question_rows.specs.Referring.{linked_code}

-- why it can never be changed here, as the policy finds it
abbrev pub outside_part : Asked → List ℕ
outside_part q = if is_never_changed q then small (outside_text q.node) else []

-- how a condition stands, and what it says
abbrev pub stated : List Node → List ℕ → List ℕ → List ℕ
stated ns state words = codes " " ++ state ++ codes ": " ++ linked_code ns words

-- ---- the guards around it, the outermost first

-- what a guard denies by
abbrev pub guard_kind : List ℕ → DenialKind
guard_kind op =
    if number op == DISABLE_IF then DisableIf else if number op == SUPPRESS_IF then SuppressIf else GrayOutIf

-- whether it does, as it stands
abbrev pub is_in_force : List ℕ → Bool
is_in_force state = bytes_eq state (codes "holds") || bytes_eq state (codes "removed")

abbrev pub guard_class : List ℕ → List ℕ → List ℕ
guard_class op state = if is_in_force state then kind_name (guard_kind op) else codes "dim"

abbrev pub guard_part : Audited → Node → List ℕ
guard_part a g =
    small
    (codes "<span class=\"" ++ guard_class g.op (guard_state a g) ++ codes "\">"
    ++ opcode_name (number g.op) ++ codes "</span>"
    ++ stated a.world.nodes (guard_state a g) (condition_words g))

abbrev pub guards_part : Audited → Node → List ℕ
guards_part a n = flat_map (guard_part a) (guards n)

-- ---- the INCONSISTENT_IFs, NO_SUBMIT_IFs and WARNING_IFs in its scope, by place

abbrev pub check_words : Audited → Node → List ℕ → List ℕ
check_words a c state =
    opcode_name (number c.op) ++ stated a.world.nodes state (condition_words c) ++ codes " "
    ++ isolated (a.texts (message c.op))

abbrev pub check_start : List ℕ → List ℕ
check_start state = if is_in_force state then codes "<p class=\"small\">" else codes "<p class=\"small dim\">"

abbrev pub check_stated : Audited → Node → List ℕ → List ℕ
check_stated a c state = check_start state ++ check_words a c state ++ codes "</p>"

abbrev pub check_part : Audited → Node → List ℕ
check_part a c = check_stated a c (state_text (value_at a c))

abbrev pub checks_part : Audited → Node → List ℕ
checks_part a n = flat_map (check_part a) (checks n)

-- ---- the rules that these, its guards and those of its options name, and those that these name in turn, by place

abbrev pub rule_part : List Node → Node → List ℕ
rule_part ns r =
    dim (codes "rule " ++ decimal (rule_id r.op) ++ codes ": " ++ linked_code ns (rule_words r))

abbrev pub rules_part : List Node → Node → List ℕ
rules_part ns n = flat_map (rule_part ns) (named_rules ns n)

abbrev pub conditions_part : Audited → Asked → List ℕ
conditions_part a q =
    outside_part q ++ guards_part a q.node ++ checks_part a q.node ++ rules_part a.world.nodes q.node

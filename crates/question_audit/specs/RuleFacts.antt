-- The rules that the conditions of a question name (own rule; a RULE and its references are those of UEFI 2.8, 33.3.8.3,
-- EFI_IFR_RULE and EFI_IFR_RULE_REF).
use Rattle.std.specs.Prelude.{ℕ, ◌+◌, Bool, false, ◌==◌, if◌then◌else◌, Option, Some, None, List, [], ◌∷◌, ◌++◌, filter, codes, decimal}
use Rattle.std.specs.List.{find, flat_map, list_any}
use Rattle.hii_bytes.specs.Texts.{place_text}
use Rattle.ifr_opcodes.specs.Fields.{rule_id}
use Rattle.ifr_opcodes.specs.Forest.{Node}
use Rattle.ifr_opcodes.specs.Opcode.{number}
use Rattle.ifr_expr.specs.Meaning.{Rule, names}
use Rattle.ifr_expr.specs.References.{references}
use Rattle.ifr_expr.specs.Trees.{Tree}
use Rattle.ifr_expr.specs.declared.references.RuleReference.{RuleReference}
use Rattle.ifr_nodes.specs.Guards.{guards, is_guard}
use Rattle.ifr_nodes.specs.NodeExpressions.{expression_tree}
use Rattle.ifr_nodes.specs.Nodes.{of_question}
use Rattle.ifr_nodes.specs.Rules.{as_rule, is_rule, rule_nodes, rules_among}
use Rattle.audit_text.specs.Texts.{hex_text}
use Rattle.condition_text.specs.Senses.{sense}
use Rattle.condition_text.specs.Texts.{text}
use Rattle.question_audit.specs.Audited.{Audited}
use Rattle.question_audit.specs.ConditionFacts.{checks, column}

-- ---- references

-- the references to rules in a tree, behind each those of the rule that it names
abbrev pub references_over : (ℕ → ℕ → List RuleReference) → Tree → List RuleReference
references_over behind tree = flat_map (λ r. r ∷ behind r.id r.place) (references tree)

-- those of the rule that an id names at a place, where the latest rule stands first
unfoldable pub rule_references : List Rule → ℕ → ℕ → List RuleReference
rule_references [] id place = []
rule_references (r ∷ earlier) id place =
    if names id place r then references_over (rule_references earlier) r.tree
    else rule_references earlier id place

-- the references of a condition, and of the rules that it names in turn
abbrev pub condition_references : List Node → Node → List RuleReference
condition_references ns c = references_over (rule_references (rules_among ns)) (expression_tree c)

-- whether a reference names the rule at a place
abbrev pub stands_at : ℕ → Option Node → Bool
stands_at place None = false
stands_at place (Some rule) = rule.place == place

abbrev pub names_rule : List Node → ℕ → RuleReference → Bool
names_rule ns place r = stands_at place (find (λ n. names r.id r.place (as_rule n)) (rule_nodes ns))

-- ---- of a question

-- the SUPPRESS_IFs, GRAY_OUT_IFs and DISABLE_IFs in the scope of a question, as those around its options, by place (33.3.8.3,
-- EFI_IFR_SUPPRESS_IF, EFI_IFR_GRAY_OUT_IF and EFI_IFR_DISABLE_IF)
abbrev pub inner_guards : Node → List Node
inner_guards n = of_question (λ g. is_guard (number g.op)) n

-- the guards around a question, those in its scope, and its checks
abbrev pub conditions_of : Node → List Node
conditions_of n = guards n ++ inner_guards n ++ checks n

-- whether they name the rule at a place
abbrev pub is_named : List Node → Node → ℕ → Bool
is_named ns n place =
    list_any (names_rule ns place) (flat_map (condition_references ns) (conditions_of n))

-- what a rule says
abbrev pub rule_words : Node → List ℕ
rule_words r = text (sense (as_rule r).tree)

-- a rule by its id, its place in the forms package and its byte in the list, with what it says
abbrev pub rule_fact : ℕ → Node → List ℕ
rule_fact package_place r =
    column (codes "rule") ++ decimal (rule_id r.op) ++ codes " at " ++ place_text r.place
    ++ codes " (byte " ++ hex_text (package_place + r.place) ++ codes "): "
    ++ rule_words r ++ codes "\n"

-- those, by place
abbrev pub named_rules : List Node → Node → List Node
named_rules ns n = filter (λ r. is_named ns n r.place) (filter is_rule ns)

abbrev pub rule_facts : Audited → ℕ → Node → List ℕ
rule_facts a package_place n = flat_map (rule_fact package_place) (named_rules a.world.nodes n)

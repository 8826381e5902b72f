-- The numbers that conditions name (UEFI 2.8, 33.2.5.7 Expressions).
use Rattle.std.specs.Prelude.{ℕ, ◌==◌, if◌then◌else◌, Option, Some, None, List, [], ◌∷◌, ◌++◌}
use Rattle.std.specs.List.{find, flat_map}
use Rattle.ifr_opcodes.specs.declared.codes.TheConstants.{EQ_ID_VAL, EQ_ID_VAL_LIST}
use Rattle.ifr_opcodes.specs.Fields.{eq_id_val_list_values, eq_id_val_value, uint_value, uints}
use Rattle.ifr_opcodes.specs.Forest.{Mark, Node}
use Rattle.ifr_opcodes.specs.Opcode.{number}
use Rattle.ifr_opcodes.specs.Rows.{is_among}
use Rattle.ifr_expr.specs.Meaning.{names}
use Rattle.ifr_expr.specs.Trees.{Tree, post}
use Rattle.ifr_expr.specs.Values.{Value, constant_value, natural}
use Rattle.ifr_expr.specs.declared.references.RuleReference.{RuleReference}
use Rattle.ifr_nodes.specs.NodeExpressions.{expression_tree}
use Rattle.ifr_nodes.specs.Rules.{as_rule, rule_nodes}
use Rattle.question_audit.specs.RuleFacts.{condition_references}

abbrev pub number_in : Value → List ℕ
number_in (natural n) = n ∷ []
number_in _ = []

-- those of an opcode: ZERO, ONE and ONES are numbers, too
abbrev pub op_constants : List ℕ → List ℕ
op_constants op =
    if number op == EQ_ID_VAL then eq_id_val_value op ∷ []
    else if number op == EQ_ID_VAL_LIST then eq_id_val_list_values op
    else if is_among (number op) uints then uint_value op ∷ []
    else number_in (constant_value (number op))

abbrev pub mark_constants : Mark → List ℕ
mark_constants op = op_constants op.op

abbrev pub tree_constants : Tree → List ℕ
tree_constants tree = flat_map mark_constants (post tree)

abbrev pub rule_constants : Option Node → List ℕ
rule_constants None = []
rule_constants (Some rule) = tree_constants (as_rule rule).tree

-- of the rule that a reference names
abbrev pub named_constants : List Node → RuleReference → List ℕ
named_constants ns r = rule_constants (find (λ n. names r.id r.place (as_rule n)) (rule_nodes ns))

-- of a condition, and of the rules that it names, and those that these name
abbrev pub constants : List Node → Node → List ℕ
constants ns c =
    tree_constants (expression_tree c) ++ flat_map (named_constants ns) (condition_references ns c)

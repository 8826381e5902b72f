-- The rules of a package (UEFI 2.8, 33.3.8.3, EFI_IFR_RULE), and how large they are (own rule).
use Rattle.std.specs.Prelude.{ℕ, ◌+◌, max, Bool, ◌==◌, ◌||◌, nat_lt, if◌then◌else◌, Option, Some, None, List, [], ◌∷◌, length, map, filter, reverse, sum}
use Rattle.std.specs.List.{last_or}
use Rattle.ifr_opcodes.specs.declared.codes.TheConstants.{FORM, RULE}
use Rattle.ifr_opcodes.specs.Opcode.{number}
use Rattle.ifr_opcodes.specs.Fields.{rule_id}
use Rattle.ifr_opcodes.specs.Forest.{none, node, flat, Ancestor, Node}
use Rattle.ifr_expr.specs.Meaning.{Rule, names}
use Rattle.ifr_expr.specs.Reading.{tree_in}
use Rattle.ifr_expr.specs.References.{references}
use Rattle.ifr_expr.specs.Trees.{Tree, post}
use Rattle.ifr_nodes.specs.Nodes.{end_of}
use Rattle.ifr_nodes.specs.declared.rules.RuleSize.{RuleSize}

abbrev pub is_rule : Node → Bool
is_rule n = number n.op == RULE

-- the forms among ancestors
abbrev pub forms_among : List Ancestor → List Ancestor
forms_among path = filter (λ a. number a.op == FORM) path

-- where the scope of one ends, in bytes from the package's header
abbrev pub scope_end : Ancestor → ℕ
scope_end a = a.place + length (flat (node a.op a.children none))

abbrev pub end_or_0 : Option Ancestor → ℕ
end_or_0 None = 0
end_or_0 (Some form) = scope_end form

-- where the innermost form of a path ends, 0 where there is none
abbrev pub form_end : List Ancestor → ℕ
form_end path = end_or_0 (last_or None (forms_among path))

-- where a rule's expression stands
abbrev pub expression_place : Node → ℕ
expression_place n = n.place + length n.op

abbrev pub as_rule : Node → Rule
as_rule n =
    record {
      id = rule_id n.op;
      ends = end_of n;
      form_ends = form_end n.path;
      tree = tree_in (expression_place n) n.children;
    }

-- the rules among nodes, the latest first
abbrev pub rule_nodes : List Node → List Node
rule_nodes ns = reverse (filter is_rule ns)

abbrev pub rules_among : List Node → List Rule
rules_among ns = map as_rule (rule_nodes ns)

abbrev pub greatest : List ℕ → ℕ
greatest [] = 0
greatest (n ∷ ns) = max n (greatest ns)

-- the size of a rule's expression, by what size the rules of an id have for a place
abbrev pub size_over : (ℕ → ℕ → RuleSize) → Tree → RuleSize
size_over sizes tree = record {
  depth = 1 + greatest (map (λ r. (sizes r.id r.place).depth) (references tree));
  weight = length (post tree) + sum (map (λ r. (sizes r.id r.place).weight) (references tree));
}

-- the sizes of the rules of an id for a place, where the latest rule stands first: that of the first that is named, over the
-- rules before it
unfoldable pub rule_sizes : List Rule → ℕ → ℕ → RuleSize
rule_sizes [] id place = record { depth = 0; weight = 0 }
rule_sizes (r ∷ earlier) id place =
    if names id place r then size_over (rule_sizes earlier) r.tree
    else rule_sizes earlier id place

-- the size of a rule, over those before it
abbrev pub size : List Rule → Rule → RuleSize
size earlier r = size_over (rule_sizes earlier) r.tree

-- at most 16 rules name one another, and have at most 4,096 opcodes
abbrev pub is_rule_too_large : RuleSize → Bool
is_rule_too_large s = nat_lt 16 s.depth || nat_lt 4096 s.weight

-- The dependents of a package, which are the conditions that are kept and the rules, and how they are collected.
use Rattle.std.specs.Prelude.{ℕ, ◌||◌, if◌then◌else◌, Bool, None, List, filter, slice_index_or, ◌≡◌, ◌<◌, ◌==◌, ◌&&◌, nat_lt, All, ⊤, length, map, take, true}
use Rattle.std.specs.List.{list_any}
use Rattle.ifr_opcodes.specs.Forest.{Node}
use Rattle.ifr_opcodes.specs.declared.codes.TheConstants.{SUPPRESS_IF, GRAY_OUT_IF}
use Rattle.ifr_opcodes.specs.Opcode.{number}
use Rattle.ifr_expr.specs.Dependence.{dependence}
use Rattle.ifr_expr.specs.code.Expressions.{tree_of}
use Rattle.ifr_expr.specs.declared.names.Name.{Name}
use Rattle.ifr_expr.specs.declared.names.Name.TheVariants as name
use Rattle.ifr_nodes.specs.code.Checked.{or_empty}
use Rattle.ifr_nodes.specs.NodeExpressions.{expression_tree}
use Rattle.ifr_nodes.specs.Nodes.{this_of, end_of}
use Rattle.ifr_nodes.specs.Rules.{is_rule, rules_among}
use Rattle.guard_policy.specs.Conditions.{is_kept}
use Rattle.kept_conditions.specs.Touching.{has_byte, field_with}
use Rattle.kept_conditions.specs.code.Index.{AreSmall, HaveNumbers, depends_on}
use Rattle.kept_conditions.specs.declared.collection.Collected.{Collected}
use Rattle.kept_conditions.specs.declared.collection.DependentExpression.{DependentExpression}
use Rattle.kept_conditions.specs.declared.dependents.Dependent.{Dependent}
use Rattle.kept_conditions.specs.declared.index.Dependency.{Dependency}
use Rattle.kept_conditions.specs.declared.index.RuleUse.{RuleUse}

abbrev pub is_dependent : Node → Bool
is_dependent n = is_kept n || is_rule n

abbrev pub dependent_nodes : List Node → List Node
dependent_nodes ns = filter is_dependent ns

-- the node of the dependent of a number
abbrev pub dependent_node : List Node → ℕ → Node
dependent_node ns k = slice_index_or (dependent_nodes ns) k (or_empty None)

-- the question in whose scope its expression stands; THIS in a rule has none
abbrev pub this_in : Node → ℕ
this_in n = if is_rule n then 0 else this_of n

-- the questions on whose answers it depends
abbrev pub dependency_ids : List Node → Node → List ℕ
dependency_ids ns n = dependence (rules_among ns) (this_in n) (expression_tree n)

-- the question of one of these ids has a field with one of these bytes
abbrev pub some_has_byte : List Node → (ℕ → ℕ → Bool) → List ℕ → Bool
some_has_byte ns bytes ids = list_any (λ id. has_byte bytes (field_with ns id)) ids

-- the dependent of a number depends on one of these bytes
abbrev pub is_touched : List Node → (ℕ → ℕ → Bool) → ℕ → Bool
is_touched ns bytes k = some_has_byte ns bytes (dependency_ids ns (dependent_node ns k))

-- a SUPPRESS_IF or a GRAY_OUT_IF
abbrev pub is_kept_guard : Node → Bool
is_kept_guard n = number n.op == SUPPRESS_IF || number n.op == GRAY_OUT_IF

-- This is the expression of a dependent.
pub record IsExpressionOf (n : Node) (dependent : DependentExpression) : Type 0 where
  pub tree : tree_of dependent.expression ≡ expression_tree n
  pub this : dependent.this ≡ this_in n
  pub rule : dependent.is_rule ≡ is_rule n

-- A reference stands before a place.
abbrev pub IsBefore : ℕ → Name → Type 0
IsBefore ends (name.Question id) = ⊤
IsBefore ends name.This = ⊤
IsBefore ends (name.Rule r) = r.place < ends

-- ---- what is collected

-- a use by the dependent of a number of a rule that depends on one of these bytes
abbrev pub is_used : (ℕ → Bool) → ℕ → RuleUse → Bool
is_used touched k l = l.dependent == k && touched l.rule

-- the dependent of a number has a field with one of these bytes, or uses a rule that depends on one
abbrev pub finds : List Node → (ℕ → ℕ → Bool) → List Dependency → List RuleUse → ℕ → Bool
finds ns bytes dependencies rule_uses k =
    depends_on bytes dependencies k || list_any (is_used (is_touched ns bytes) k) rule_uses

-- A rule is used by a dependent, which ends behind it if it is a rule, too.
pub record IsRuleUse (ns : List Node) (l : RuleUse) : Type 0 where
  pub rule : l.rule < length (dependent_nodes ns)
  pub dependent : l.dependent < length (dependent_nodes ns)
  pub named : is_rule (dependent_node ns l.rule) ≡ true
  pub before : is_rule (dependent_node ns l.dependent) ≡ true
      → end_of (dependent_node ns l.rule) < end_of (dependent_node ns l.dependent)

-- Dependencies and rule uses are those of dependents of a package.
pub record AreSound (ns : List Node) (it : Collected) : Type 0 where
  pub numbers : HaveNumbers (length (dependent_nodes ns)) it.dependencies.items
  pub small : AreSmall it.dependencies.items
  pub are_uses : All (IsRuleUse ns) it.rule_uses.items

-- It is added that the dependent of a number depends on the questions of some ids.
pub record Adds (ns : List Node) (number : ℕ) (ids : List ℕ) (old new : Collected) : Type 0 where
  pub list : new.list ≡ old.list
  pub sound : AreSound ns old → AreSound ns new
  pub found : (bytes : ℕ → ℕ → Bool) (k : ℕ)
      → finds ns bytes new.dependencies.items new.rule_uses.items k
      ≡ (finds ns bytes old.dependencies.items old.rule_uses.items k
      || (number == k && some_has_byte ns bytes ids))

-- a dependent that was not visited yet
abbrev pub entry : (ℕ → Bool) → Node → Dependent
entry holding n = record {
  place = n.place;
  round = 0;
  is_rule = is_rule n;
  holds = holding n.place;
}

-- These are the first dependents of a package, and on what they depend.
pub record AreCollected (ns : List Node) (holding : ℕ → Bool) (count : ℕ) (it : Collected) : Type 0 where
  pub list : it.list.items ≡ map (entry holding) (take count (dependent_nodes ns))
  pub sound : AreSound ns it
  pub found : (bytes : ℕ → ℕ → Bool) (k : ℕ)
      → finds ns bytes it.dependencies.items it.rule_uses.items k
      ≡ (nat_lt k count && is_touched ns bytes k)

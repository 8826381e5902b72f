-- Sets of places of rules that hold with each rule those that it names, and the questions that expressions name beside rules.
use Rattle.std.specs.Prelude.{◌≡◌, ◌||◌, ℕ, Bool, true, false, Option, Some, None, List, []}
use Rattle.std.specs.List.{AllByRecursion, find, list_any}
use Rattle.ifr_opcodes.specs.Forest.{Node}
use Rattle.ifr_opcodes.specs.Rows.{is_among}
use Rattle.ifr_expr.specs.Dependence.{dependence}
use Rattle.ifr_expr.specs.Meaning.{names}
use Rattle.ifr_expr.specs.References.{references}
use Rattle.ifr_expr.specs.declared.references.RuleReference.{RuleReference}
use Rattle.ifr_expr.specs.Trees.{Tree}
use Rattle.ifr_nodes.specs.NodeExpressions.{expression_tree}
use Rattle.ifr_nodes.specs.Nodes.{this_of}
use Rattle.ifr_nodes.specs.Rules.{as_rule, is_rule, rule_nodes}
use Rattle.ifr_nodes.specs.code.Checked.{has_node, node_in}
use Rattle.question_audit.specs.RuleFacts.{names_rule}

-- the rule that a reference names
abbrev pub named_by : List Node → RuleReference → Option Node
named_by ns r = find (λ n. names r.id r.place (as_rule n)) (rule_nodes ns)

-- Each rule that these references name is there, or those that are left name it.
abbrev pub AreNamed : List Node → (ℕ → Bool) → List RuleReference → List RuleReference → Type 0
AreNamed ns has left these =
    (place : ℕ) → list_any (names_rule ns place) these ≡ true
    → has place || list_any (names_rule ns place) left ≡ true

-- So is each that a rule names which is there.
abbrev pub IsClosedBut : List Node → (ℕ → Bool) → List RuleReference → Type 0
IsClosedBut ns has left =
    (r : RuleReference) (n : Node) → Some n ≡ named_by ns r → has n.place ≡ true
    → AreNamed ns has left (references (as_rule n).tree)

-- Each rule that a rule names which is there is there.
abbrev pub IsClosed : List Node → (ℕ → Bool) → Type 0
IsClosed ns has = IsClosedBut ns has []

-- ---- questions

-- the questions that an expression names by itself: on which it depends where there are no rules
abbrev pub own_ids : ℕ → Tree → List ℕ
own_ids this tree = dependence [] this tree

-- those that a condition names by itself
abbrev pub condition_own_ids : Node → List ℕ
condition_own_ids c = own_ids (this_of c) (expression_tree c)

-- whether a rule names the question of an id by itself
abbrev pub has_own_id : ℕ → Option Node → Bool
has_own_id id None = false
has_own_id id (Some n) = is_among id (own_ids 0 (as_rule n).tree)

-- whether the one does that stands at a place
abbrev pub has_id_at : List ℕ → ℕ → ℕ → Bool
has_id_at bytes id place = has_own_id id (Some (node_in bytes place))

-- A rule stands at a place.
pub record IsRuleAt (bytes : List ℕ) (place : ℕ) : Type 0 where
  pub there : has_node bytes place ≡ true
  pub rule : is_rule (node_in bytes place) ≡ true

abbrev pub AreRulesAt : List ℕ → List ℕ → Type 0
AreRulesAt bytes places = AllByRecursion (IsRuleAt bytes) places

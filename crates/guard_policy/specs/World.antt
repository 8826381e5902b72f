-- What a decision looks at.
use Rattle.std.specs.Prelude.{ℕ, Bool, ◌==◌, ◌&&◌, List, map, filter}
use Rattle.ifr_opcodes.specs.declared.codes.TheConstants.{DISABLE_IF}
use Rattle.ifr_opcodes.specs.Opcode.{number}
use Rattle.ifr_opcodes.specs.Forest.{Node}
use Rattle.ifr_expr.specs.Values.{Value, holds}
use Rattle.ifr_expr.specs.Meaning.{Rule, value}
use Rattle.ifr_nodes.specs.NodeExpressions.{expression_tree}
use Rattle.ifr_nodes.specs.Nodes.{this_of}
use Rattle.ifr_nodes.specs.Rules.{rules_among}
use Rattle.hii_varstore.specs.Stores.{StoreMap}
use Rattle.hii_questions.specs.Answers.{answers}

-- the nodes of the form set, the places of the DISABLE_IFs that were removed when it was opened, and which other conditions hold
pub record World : Type 0 where
  pub nodes : List Node
  pub removed : List ℕ
  pub met : Node → Bool

abbrev pub is_met : World → Node → Bool
is_met w n = w.met n

-- The condition of a node, the expression with which its scope begins, holds over rules and what questions answer (33.2.5.7
-- Expressions).
abbrev pub is_met_by : List Rule → (ℕ → Value) → Node → Bool
is_met_by rules answers n = holds (value rules answers (this_of n) (expression_tree n))

-- The condition of a node holds over the nodes of a form set and its stores: whether a question is hidden itself does not
-- matter to its answer (own rule).
abbrev pub is_met_over : List Node → StoreMap → Node → Bool
is_met_over ns stores n = is_met_by (rules_among ns) (answers ns stores) n

-- the world of a form set and its stores
abbrev pub world_over : List Node → List ℕ → StoreMap → World
world_over ns removed stores = record { nodes = ns; removed = removed; met = is_met_over ns stores }

-- the places of the DISABLE_IFs whose conditions hold over the stores at opening (33.3.8.3, EFI_IFR_DISABLE_IF: what stands in its
-- scope is as if it were not there)
abbrev pub is_disabling : List Node → StoreMap → Node → Bool
is_disabling ns stores n = number n.op == DISABLE_IF && is_met_over ns stores n

abbrev pub removed_at : List Node → StoreMap → List ℕ
removed_at ns stores = map (λ n. n.place) (filter (is_disabling ns stores) ns)

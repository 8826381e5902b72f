use Rattle.std.proofs.Common.{◌≡◌, ℕ, length}
use Rattle.std.specs.Prelude.{◌||◌}
use Rattle.hii_bytes.specs.code.NumberSets.{has_number}
use Rattle.ifr_opcodes.specs.Rows.{is_among}
use Rattle.ifr_nodes.specs.Nodes.{nodes_of}
use Rattle.ifr_scopes.specs.code.AnyConditions.{any_condition_node}
use Rattle.ifr_scopes.specs.code.DependenceLeft.{dependence_left}
use Rattle.guard_policy.specs.Conditions.{condition_ids}
use Rattle.script_audit.proofs.depends.ids_of.Given as goal

-- each id is added or left to be added
abbrev pub invariant-loop-id : goal.invariant-loop-id
invariant-loop-id l = (id : ℕ) → (has_number l.ids id || is_among id (dependence_left l.named)) ≡ is_among id (condition_ids (nodes_of l.forms) (any_condition_node l.condition))

abbrev pub decreases-loop-id : goal.decreases-loop-id
decreases-loop-id l = length (dependence_left l.named)

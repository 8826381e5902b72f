use Rattle.std.proofs.Common.{◌≡◌, length}
use Rattle.std.specs.Ordering.{nat_cmp}
use Rattle.ifr_nodes.specs.Nodes.{nodes_of}
use Rattle.ifr_scopes.specs.code.DependenceLeft.{dependence_left}
use Rattle.ifr_scopes.specs.code.Lists.{guard_node}
use Rattle.guard_policy.specs.code.Views.{bytes_of}
use Rattle.unlock_audit.specs.Asking.{ids_in}
use Rattle.unlock_audit.specs.Rising.{added_each}
use Rattle.unlock_audit.proofs.asking.ids_in.Given as goal

-- the ids that are left are left to be added
abbrev pub invariant-loop-id : goal.invariant-loop-id
invariant-loop-id l = added_each nat_cmp l.ids.keys (dependence_left l.named) ≡ ids_in (nodes_of (bytes_of l.policy)) (guard_node l.guard)

abbrev pub decreases-loop-id : goal.decreases-loop-id
decreases-loop-id l = length (dependence_left l.named)

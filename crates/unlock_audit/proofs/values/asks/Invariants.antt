use Rattle.std.proofs.Common.{◌≡◌, length}
use Rattle.ifr_opcodes.specs.Rows.{is_among}
use Rattle.ifr_nodes.specs.Nodes.{nodes_of}
use Rattle.ifr_scopes.specs.code.DependenceLeft.{dependence_left}
use Rattle.ifr_scopes.specs.code.Lists.{guard_node}
use Rattle.unlock_audit.specs.Moves.{asks}
use Rattle.unlock_audit.proofs.values.asks.Given as goal

-- it is among those that are left, if it is among all
abbrev pub invariant-loop-other : goal.invariant-loop-other
invariant-loop-other l = is_among l.id (dependence_left l.named) ≡ asks (nodes_of l.forms) l.id (guard_node l.guard)

abbrev pub decreases-loop-other : goal.decreases-loop-other
decreases-loop-other l = length (dependence_left l.named)

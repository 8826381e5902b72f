use Rattle.std.proofs.Common.{◌≡◌, length}
use Rattle.ifr_opcodes.specs.Rows.{is_among}
use Rattle.ifr_nodes.specs.Nodes.{nodes_of}
use Rattle.ifr_scopes.specs.code.DependenceLeft.{dependence_left}
use Rattle.ifr_scopes.specs.code.Lists.{guard_node}
use Rattle.question_audit.specs.code.Naming.{names}
use Rattle.question_audit.proofs.decides_facts.names.Given as goal

-- the ids that were met are others
abbrev pub invariant-loop-named : goal.invariant-loop-named
invariant-loop-named l = is_among l.id (dependence_left l.ids) ≡ names (nodes_of l.forms) l.id (guard_node l.guard)

abbrev pub decreases-loop-named : goal.decreases-loop-named
decreases-loop-named l = length (dependence_left l.ids)

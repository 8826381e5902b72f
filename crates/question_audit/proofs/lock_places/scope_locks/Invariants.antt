use Rattle.std.proofs.Common.{length}
use Rattle.std.specs.BTreeMap.{get}
use Rattle.std.specs.Ordering.{nat_cmp}
use Rattle.ifr_nodes.specs.Nodes.{nodes_of}
use Rattle.ifr_nodes.specs.code.Visits.{left}
use Rattle.ifr_index.specs.code.LockIndex.{Finds, first_place}
use Rattle.question_audit.proofs.lock_places.scope_locks.Given as goal

-- what was found so far, else what is found among the nodes that are left
abbrev pub invariant-loop-met : goal.invariant-loop-met
invariant-loop-met l = Finds (first_place (nodes_of l.ifr)) (get nat_cmp l.locks) (left l.nodes.walk)

abbrev pub decreases-loop-met : goal.decreases-loop-met
decreases-loop-met l = length (left l.nodes.walk)

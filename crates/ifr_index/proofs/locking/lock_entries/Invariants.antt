use Rattle.std.proofs.Common.{◌≡◌, length}
use Rattle.ifr_nodes.specs.Nodes.{nodes_of}
use Rattle.ifr_nodes.specs.code.Visits.{left}
use Rattle.ifr_index.proofs.LockingLemmas.{Locking}
use Rattle.ifr_index.proofs.locking.lock_entries.Given as goal

abbrev pub invariant-loop-met : goal.invariant-loop-met
invariant-loop-met l = record {
  locking : Locking (nodes_of l.ifr) l.entries.items l.next (left l.nodes.walk);
  kept : l.nodes.walk.bytes.now ≡ l.ifr;
}

abbrev pub decreases-loop-met : goal.decreases-loop-met
decreases-loop-met l = length (left l.nodes.walk)

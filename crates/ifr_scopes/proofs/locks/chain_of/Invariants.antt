use Rattle.std.proofs.Common.{◌≡◌, length}
use Rattle.ifr_opcodes.specs.Forest.{node_at}
use Rattle.ifr_nodes.specs.Nodes.{nodes_of}
use Rattle.ifr_nodes.specs.code.Visits.{left}
use Rattle.ifr_scopes.proofs.locks.chain_of.Given as goal

-- the node at the place is still to come
abbrev pub invariant-loop-met : goal.invariant-loop-met
invariant-loop-met l = record {
  coming : node_at (left l.nodes.walk) l.place ≡ node_at (nodes_of l.ifr) l.place;
  kept : l.nodes.walk.bytes.now ≡ l.ifr;
}

abbrev pub decreases-loop-met : goal.decreases-loop-met
decreases-loop-met l = length (left l.nodes.walk)

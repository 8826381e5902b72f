use Rattle.std.proofs.Common.{◌≡◌, length}
use Rattle.ifr_nodes.specs.Nodes.{nodes_of}
use Rattle.ifr_nodes.specs.code.Visits.{left}
use Rattle.ifr_nodes.proofs.ReferenceLemmas.{HasMet}
use Rattle.ifr_nodes.proofs.references.check_references.Given as goal

abbrev pub invariant-loop-next : goal.invariant-loop-next
invariant-loop-next l = record {
  has_met : HasMet l.ifr (nodes_of l.ifr) (left l.nodes.walk) l.met;
  kept : l.nodes.walk.bytes.now ≡ l.ifr;
}

abbrev pub decreases-loop-next : goal.decreases-loop-next
decreases-loop-next l = length (left l.nodes.walk)

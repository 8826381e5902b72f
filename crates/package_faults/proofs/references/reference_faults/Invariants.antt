use Rattle.std.proofs.Common.{◌≡◌, length}
use Rattle.ifr_nodes.specs.code.Visits.{left}
use Rattle.package_faults.proofs.ReferenceLemmas.{HasMet}
use Rattle.package_faults.proofs.references.reference_faults.Given as goal

abbrev pub invariant-loop-next : goal.invariant-loop-next
invariant-loop-next l = record {
  met : HasMet l.ifr (left l.nodes.walk) l.met l.faults.items;
  kept : l.nodes.walk.bytes.now ≡ l.ifr;
}

abbrev pub decreases-loop-next : goal.decreases-loop-next
decreases-loop-next l = length (left l.nodes.walk)

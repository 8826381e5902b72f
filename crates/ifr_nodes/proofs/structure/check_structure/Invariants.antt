use Rattle.std.proofs.Common.{◌≡◌, length}
use Rattle.ifr_nodes.specs.Nodes.{nodes_of}
use Rattle.ifr_nodes.specs.code.Visits.{left}
use Rattle.ifr_nodes.proofs.StructureLemmas.{Stands}
use Rattle.ifr_nodes.proofs.structure.check_structure.Given as goal

abbrev pub invariant-loop-visit : goal.invariant-loop-visit
invariant-loop-visit l = record { stands : Stands (nodes_of l.bytes) (left l.walk); kept : l.walk.bytes.now ≡ l.bytes }

abbrev pub decreases-loop-visit : goal.decreases-loop-visit
decreases-loop-visit l = length (left l.walk)

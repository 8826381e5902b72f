use Rattle.std.proofs.Common.{◌≡◌, length}
use Rattle.ifr_nodes.specs.Nodes.{nodes_of}
use Rattle.ifr_nodes.specs.code.Visits.{left}
use Rattle.ifr_nodes.proofs.StructureLemmas.{Stands}
use Rattle.ifr_index.proofs.MakingLemmas.{Made}
use Rattle.ifr_index.proofs.indexing.index_of.Given as goal

abbrev pub invariant-loop-visit : goal.invariant-loop-visit
invariant-loop-visit l = record {
  made : Made (nodes_of l.ifr) l.tables l.levels.items (left l.walk);
  stands : Stands (nodes_of l.ifr) (left l.walk);
  kept : l.walk.bytes.now ≡ l.ifr;
}

abbrev pub decreases-loop-visit : goal.decreases-loop-visit
decreases-loop-visit l = length (left l.walk)

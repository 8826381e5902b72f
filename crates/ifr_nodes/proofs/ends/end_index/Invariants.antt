use Rattle.std.proofs.Common.{◌-◌, length}
use Rattle.ifr_nodes.specs.code.Checked.{node_in}
use Rattle.ifr_nodes.specs.Nodes.{end_of}
use Rattle.ifr_nodes.proofs.EndLemmas.{Ends}
use Rattle.ifr_nodes.proofs.ends.end_index.Given as goal

abbrev pub invariant-loop-depth : goal.invariant-loop-depth
invariant-loop-depth l = Ends l.bytes l.end l.depth (end_of (node_in l.bytes l.place))

abbrev pub decreases-loop-depth : goal.decreases-loop-depth
decreases-loop-depth l = length l.bytes - l.end

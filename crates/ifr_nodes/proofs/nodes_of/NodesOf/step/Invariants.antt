use Rattle.std.proofs.Common.{◌≡◌, true, length}
use Rattle.ifr_nodes.specs.code.PartsLeft.{parts_left}
use Rattle.ifr_nodes.specs.code.Views.{nodes_left}
use Rattle.ifr_nodes.proofs.nodes_of.NodesOf.step.Given as goal

abbrev pub invariant-loop-node : goal.invariant-loop-node
invariant-loop-node l = record {
  left : parts_left l.self ≡ parts_left l.fn.self;
  coded : l.self.code ≡ l.fn.self.code;
  asked : l.self.question ≡ true;
}

abbrev pub decreases-loop-node : goal.decreases-loop-node
decreases-loop-node l = length (nodes_left l.self.nodes)

use Rattle.std.proofs.Common.{◌≡◌, length}
use Rattle.ifr_scopes.specs.code.Lists.{statements_left}
use Rattle.ifr_nodes.specs.code.Views.{nodes_left}
use Rattle.ifr_scopes.proofs.statement.StatementsIterator.next.Given as goal

abbrev pub invariant-loop-node : goal.invariant-loop-node
invariant-loop-node l = statements_left l.self ≡ statements_left l.fn.self

abbrev pub decreases-loop-node : goal.decreases-loop-node
decreases-loop-node l = length (nodes_left l.self.nodes)

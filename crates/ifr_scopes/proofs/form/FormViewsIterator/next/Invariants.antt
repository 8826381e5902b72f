use Rattle.std.proofs.Common.{◌≡◌, length}
use Rattle.ifr_scopes.specs.code.Lists.{forms_left}
use Rattle.ifr_nodes.specs.code.Views.{nodes_left}
use Rattle.ifr_scopes.proofs.form.FormViewsIterator.next.Given as goal

abbrev pub invariant-loop-node : goal.invariant-loop-node
invariant-loop-node l = forms_left l.self ≡ forms_left l.fn.self

abbrev pub decreases-loop-node : goal.decreases-loop-node
decreases-loop-node l = length (nodes_left l.self.nodes)

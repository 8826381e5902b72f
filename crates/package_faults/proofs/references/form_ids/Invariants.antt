use Rattle.std.proofs.Common.{length}
use Rattle.ifr_nodes.specs.Nodes.{nodes_of}
use Rattle.ifr_nodes.specs.code.Views.{nodes_left}
use Rattle.package_faults.proofs.ReferenceLemmas.{Gathers}
use Rattle.package_faults.proofs.references.form_ids.Given as goal

-- the ids so far, with those of the forms that are left, are all
abbrev pub invariant-loop-node : goal.invariant-loop-node
invariant-loop-node l = Gathers (nodes_of l.ifr) (nodes_left l.nodes) l.ids

abbrev pub decreases-loop-node : goal.decreases-loop-node
decreases-loop-node l = length (nodes_left l.nodes)

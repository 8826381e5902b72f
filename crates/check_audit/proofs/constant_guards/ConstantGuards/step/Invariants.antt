use Rattle.std.proofs.Common.{◌≡◌, List, length}
use Rattle.ifr_opcodes.specs.Forest.{Node}
use Rattle.ifr_nodes.specs.code.Views.{nodes_left}
use Rattle.check_audit.specs.code.States.{AreStatesOf, constants_left}
use Rattle.check_audit.proofs.constant_guards.ConstantGuards.step.Given as goal

-- those that are left of the guards that were not met yet are left of all
abbrev pub invariant-loop-node : goal.invariant-loop-node
invariant-loop-node l =
    (ns : List Node) → AreStatesOf ns l.fn.self → AreStatesOf ns l.self × (constants_left ns l.fn.self ≡ constants_left ns l.self)

abbrev pub decreases-loop-node : goal.decreases-loop-node
decreases-loop-node l = length (nodes_left l.self.nodes)

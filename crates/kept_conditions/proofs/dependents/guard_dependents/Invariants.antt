use Rattle.std.proofs.Common.{◌≡◌, ◌++◌, length, map}
use Rattle.ifr_opcodes.specs.Forest.{Node}
use Rattle.ifr_nodes.specs.Guards.{guards_among}
use Rattle.ifr_nodes.specs.Nodes.{nodes_of}
use Rattle.ifr_scopes.specs.code.Lists.{all_guards_left}
use Rattle.guard_policy.specs.code.Views.{bytes_of}
use Rattle.kept_conditions.proofs.dependents.guard_dependents.Given as goal

-- the places so far, with those of the guards that are left
abbrev pub invariant-loop-guard : goal.invariant-loop-guard
invariant-loop-guard l =
    l.numbers.items ++ map (λ (n : Node). n.place) (all_guards_left l.guards)
    ≡ map (λ (n : Node). n.place) (guards_among (nodes_of (bytes_of l.policy)))

abbrev pub decreases-loop-guard : goal.decreases-loop-guard
decreases-loop-guard l = length (all_guards_left l.guards)

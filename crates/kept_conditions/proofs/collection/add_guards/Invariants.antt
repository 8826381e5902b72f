use Rattle.std.proofs.Common.{◌≡◌, ◌++◌, length, map, filter}
use Rattle.ifr_opcodes.specs.Forest.{Node}
use Rattle.ifr_scopes.specs.code.Lists.{all_guards_left}
use Rattle.ifr_nodes.specs.Nodes.{nodes_of}
use Rattle.kept_conditions.specs.code.Collection.{is_kept_guard}
use Rattle.kept_conditions.proofs.collection.add_guards.Given as goal

-- the places so far, with those of the guards that are left
abbrev pub invariant-loop-guard : goal.invariant-loop-guard
invariant-loop-guard l =
    l.places.items ++ map (λ (n : Node). n.place) (filter is_kept_guard (all_guards_left l.guards))
    ≡ l.fn.places.items ++ map (λ (n : Node). n.place) (filter is_kept_guard (nodes_of l.forms))

abbrev pub decreases-loop-guard : goal.decreases-loop-guard
decreases-loop-guard l = length (all_guards_left l.guards)

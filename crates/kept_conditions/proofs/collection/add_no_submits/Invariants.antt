use Rattle.std.proofs.Common.{◌≡◌, ◌++◌, length, map, filter}
use Rattle.ifr_opcodes.specs.Forest.{Node}
use Rattle.ifr_scopes.specs.code.NoSubmitsLeft.{no_submits_left}
use Rattle.ifr_nodes.specs.Nodes.{nodes_of, is_no_submit}
use Rattle.kept_conditions.proofs.collection.add_no_submits.Given as goal

-- the places so far, with those of the conditions that are left
abbrev pub invariant-loop-nosubmit : goal.invariant-loop-nosubmit
invariant-loop-nosubmit l =
    l.places.items ++ map (λ (n : Node). n.place) (no_submits_left l.conditions)
    ≡ l.fn.places.items ++ map (λ (n : Node). n.place) (filter is_no_submit (nodes_of l.forms))

abbrev pub decreases-loop-nosubmit : goal.decreases-loop-nosubmit
decreases-loop-nosubmit l = length (no_submits_left l.conditions)

use Rattle.std.proofs.Common.{◌≡◌, ◌++◌, length}
use Rattle.std.specs.List.{flat_map}
use Rattle.ifr_nodes.specs.Nodes.{nodes_of}
use Rattle.unlock_audit.specs.Moves.{moves, moves_of}
use Rattle.unlock_audit.specs.code.Askings.{asking_meant}
use Rattle.unlock_audit.proofs.moves.moves_of.Given as goal

-- the commands for the ids that are left are left to be added
abbrev pub invariant-loop-id : goal.invariant-loop-id
invariant-loop-id l =
    let ns = nodes_of l.forms in
    l.moves.items ++ flat_map (moves_of ns (asking_meant l.asking).conditions) l.left ≡ moves ns (asking_meant l.asking)

abbrev pub decreases-loop-id : goal.decreases-loop-id
decreases-loop-id l = length l.left

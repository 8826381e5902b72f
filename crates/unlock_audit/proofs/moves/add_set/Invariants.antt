use Rattle.std.proofs.Common.{◌≡◌, ◌++◌, length, map}
use Rattle.unlock_audit.specs.Moves.{moved}
use Rattle.unlock_audit.proofs.moves.add_set.Given as goal

-- the values that are left are left to be added
abbrev pub invariant-loop-value : goal.invariant-loop-value
invariant-loop-value l = l.moves.items ++ map (moved l.id) l.left ≡ l.fn.moves.items ++ map (moved l.id) l.values.keys

abbrev pub decreases-loop-value : goal.decreases-loop-value
decreases-loop-value l = length l.left

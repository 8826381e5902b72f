use Rattle.std.proofs.Common.{◌≡◌, ◌++◌, drop, map}
use Rattle.unlock_audit.specs.Moves.{moved}
use Rattle.unlock_audit.proofs.moves.add_each.Given as goal

-- the values that are left are left to be added
abbrev pub invariant-loop-value : goal.invariant-loop-value
invariant-loop-value l = l.moves.items ++ map (moved l.id) (drop l.value-index l.values) ≡ l.fn.moves.items ++ map (moved l.id) l.values

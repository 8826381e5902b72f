use Rattle.kept_conditions.specs.code.Invalidation.{other_at, NoneWithin}
use Rattle.kept_conditions.proofs.differences.first_difference.Given as goal

-- the bytes that were passed are the same
abbrev pub invariant-loop-at : goal.invariant-loop-at
invariant-loop-at l = NoneWithin (other_at l.old l.new 0) l.from l.at

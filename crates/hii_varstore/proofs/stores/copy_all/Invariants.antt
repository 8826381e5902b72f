use Rattle.std.proofs.Common.{◌≡◌, ◌++◌, take, drop}
use Rattle.hii_varstore.proofs.stores.copy_all.Given as goal

-- the stores so far are those that are copied, and the others are as they were
abbrev pub invariant-loop-place : goal.invariant-loop-place
invariant-loop-place l = l.stores ≡ take l.place l.others ++ drop l.place l.fn.stores

use Rattle.std.proofs.Common.{◌≡◌, take}
use Rattle.hii_varstore.proofs.stores.copies.Given as goal

-- the stores so far are copied
abbrev pub invariant-loop-store : goal.invariant-loop-store
invariant-loop-store l = l.copies.items ≡ take l.store-index l.stores

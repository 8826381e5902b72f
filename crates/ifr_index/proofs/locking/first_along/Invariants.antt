use Rattle.std.proofs.Common.{◌≡◌, drop}
use Rattle.std.specs.BTreeMap.{get}
use Rattle.std.specs.Ordering.{nat_cmp}
use Rattle.ifr_index.specs.code.LockIndex.{first_some}
use Rattle.ifr_index.proofs.locking.first_along.Given as goal

-- nothing was found at the places before
abbrev pub invariant-loop-place : goal.invariant-loop-place
invariant-loop-place l = first_some (get nat_cmp l.found) (drop l.place-index l.places) ≡ first_some (get nat_cmp l.found) l.places

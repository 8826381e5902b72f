use Rattle.std.proofs.Common.{◌≡◌, length}
use Rattle.ifr_scopes.specs.code.Lists.{guards_left}
use Rattle.guard_policy.specs.code.AskedLeft.{numbered_left}
use Rattle.guard_policy.proofs.around.next_of.Given as goal

-- the guards that were passed have other numbers
abbrev pub invariant-loop-guard : goal.invariant-loop-guard
invariant-loop-guard l = numbered_left l.code l.guards ≡ numbered_left l.code l.fn.guards

abbrev pub decreases-loop-guard : goal.decreases-loop-guard
decreases-loop-guard l = length (guards_left l.guards)

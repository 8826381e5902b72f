use Rattle.std.proofs.Common.{◌≡◌, ◌-◌, length}
use Rattle.ifr_scopes.specs.code.LocksLeft.{locks_left}
use Rattle.ifr_scopes.proofs.locks.LocksIterator.next.Given as goal

-- no LOCKED was passed over
abbrev pub invariant-loop-self : goal.invariant-loop-self
invariant-loop-self l = record {
  coming : locks_left l.self ≡ locks_left l.fn.self;
  bytes : l.self.ifr ≡ l.fn.self.ifr;
}

-- each turn ends or goes on to the next scope of the chain
abbrev pub decreases-loop-self : goal.decreases-loop-self
decreases-loop-self l = length l.self.chain.items - l.self.next

use Rattle.std.proofs.Common.{◌≡◌, ◌∷◌, length}
use Rattle.ifr_scopes.specs.code.GivingLeft.{giving_left}
use Rattle.ifr_scopes.proofs.giving.GivingStatementsIterator.next.Given as goal

-- no statement was passed that is_giving a default
abbrev pub invariant-loop-first : goal.invariant-loop-first
invariant-loop-first l = record {
  left : giving_left l.self ≡ giving_left l.fn.self;
  first : l.self.places.now ≡ l.place ∷ l.places;
}

abbrev pub decreases-loop-first : goal.decreases-loop-first
decreases-loop-first l = length l.self.kept.now

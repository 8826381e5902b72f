use Rattle.std.proofs.Common.{◌≡◌, length}
use Rattle.ifr_scopes.specs.code.NoSubmitsLeft.{no_submits_left}
use Rattle.ifr_scopes.proofs.no_submits.NoSubmitsIterator.next.Given as goal

-- no NO_SUBMIT_IF was passed
abbrev pub invariant-loop-first : goal.invariant-loop-first
invariant-loop-first l = no_submits_left l.self ≡ no_submits_left l.fn.self

abbrev pub decreases-loop-first : goal.decreases-loop-first
decreases-loop-first l = length l.self.kept.now

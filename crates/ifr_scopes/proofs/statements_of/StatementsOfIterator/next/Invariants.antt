use Rattle.std.proofs.Common.{◌≡◌, length}
use Rattle.ifr_scopes.specs.code.StatementsLeft.{statements_of_left}
use Rattle.ifr_scopes.proofs.statements_of.StatementsOfIterator.next.Given as goal

-- no statement was passed
abbrev pub invariant-loop-first : goal.invariant-loop-first
invariant-loop-first l = statements_of_left l.self ≡ statements_of_left l.fn.self

abbrev pub decreases-loop-first : goal.decreases-loop-first
decreases-loop-first l = length l.self.kept.now

use Rattle.std.proofs.Common.{◌≡◌, length}
use Rattle.ifr_scopes.specs.code.ConditionsLeft.{conditions_of_left}
use Rattle.ifr_scopes.proofs.conditions_of.ConditionsOfIterator.next.Given as goal

-- no condition of the number was passed
abbrev pub invariant-loop-first : goal.invariant-loop-first
invariant-loop-first l = conditions_of_left l.self ≡ conditions_of_left l.fn.self

abbrev pub decreases-loop-first : goal.decreases-loop-first
decreases-loop-first l = length l.self.kept.now

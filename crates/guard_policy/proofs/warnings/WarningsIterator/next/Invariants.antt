use Rattle.std.proofs.Common.{◌≡◌, length}
use Rattle.ifr_scopes.specs.code.ConditionsLeft.{conditions_of_left}
use Rattle.guard_policy.specs.code.WarningsLeft.{warnings_left}
use Rattle.guard_policy.proofs.warnings.WarningsIterator.next.Given as goal

-- the conditions that were passed do not hold
abbrev pub invariant-loop-condition : goal.invariant-loop-condition
invariant-loop-condition l = warnings_left l.self ≡ warnings_left l.fn.self

abbrev pub decreases-loop-condition : goal.decreases-loop-condition
decreases-loop-condition l = length (conditions_of_left l.self.conditions)

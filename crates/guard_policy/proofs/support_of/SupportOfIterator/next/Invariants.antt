use Rattle.std.proofs.Common.{◌≡◌, length}
use Rattle.guard_policy.specs.code.AskedLeft.{asked_left}
use Rattle.guard_policy.specs.code.SupportLeft.{support_left}
use Rattle.guard_policy.proofs.support_of.SupportOfIterator.next.Given as goal

-- no id was passed over
abbrev pub invariant-loop-id : goal.invariant-loop-id
invariant-loop-id l = support_left l.self ≡ support_left l.fn.self

-- each turn ends or goes on to the next condition
abbrev pub decreases-loop-id : goal.decreases-loop-id
decreases-loop-id l = length (asked_left l.self.conditions)

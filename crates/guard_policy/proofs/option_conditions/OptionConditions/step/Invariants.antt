use Rattle.std.proofs.Common.{◌≡◌, length}
use Rattle.guard_policy.specs.code.AskedLeft.{options_of_value, around_options_left}
use Rattle.guard_policy.proofs.option_conditions.OptionConditions.step.Given as goal

-- no guard was passed over
abbrev pub invariant-loop-guard : goal.invariant-loop-guard
invariant-loop-guard l = around_options_left l.self ≡ around_options_left l.fn.self

-- each turn ends or goes on to the next option
abbrev pub decreases-loop-guard : goal.decreases-loop-guard
decreases-loop-guard l = length (options_of_value l.self)

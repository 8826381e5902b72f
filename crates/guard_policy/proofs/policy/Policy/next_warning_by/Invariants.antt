use Rattle.std.proofs.Common.{◌≡◌, length}
use Rattle.ifr_scopes.specs.code.ConditionsLeft.{conditions_of_left}
use Rattle.guard_policy.specs.code.RuleValues.{AreRuleValues}
use Rattle.guard_policy.specs.code.Views.{world}
use Rattle.guard_policy.specs.code.WarningsLeft.{warnings_among}
use Rattle.guard_policy.proofs.policy.Policy.next_warning_by.Given as goal

-- the conditions that were passed do not hold
abbrev pub invariant-loop-condition : goal.invariant-loop-condition
invariant-loop-condition l = record {
  left : warnings_among (world l.self l.stores) l.conditions ≡ warnings_among (world l.self l.stores) l.fn.conditions;
  kept : AreRuleValues l.self.forms.now l.stores l.rules;
}

abbrev pub decreases-loop-condition : goal.decreases-loop-condition
decreases-loop-condition l = length (conditions_of_left l.conditions)

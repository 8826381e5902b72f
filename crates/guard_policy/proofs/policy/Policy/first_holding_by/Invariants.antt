use Rattle.std.proofs.Common.{◌≡◌}
use Rattle.std.specs.List.{find}
use Rattle.ifr_scopes.specs.code.ConditionsLeft.{conditions_of_left}
use Rattle.guard_policy.specs.World.{is_met}
use Rattle.guard_policy.specs.code.RuleValues.{AreRuleValues}
use Rattle.guard_policy.specs.code.Views.{world}
use Rattle.guard_policy.proofs.policy.Policy.first_holding_by.Given as goal

-- the conditions that were met do not hold
abbrev pub invariant-loop-condition : goal.invariant-loop-condition
invariant-loop-condition l =
    let which = is_met (world l.self l.stores) in
    record {
      can : goal.iterator-loop-condition.can_next l.conditions;
      ends : goal.iterator-loop-condition.is_finite l.conditions;
      same : find which (conditions_of_left l.conditions) ≡ find which (conditions_of_left l.fn.conditions);
      kept : AreRuleValues l.self.forms.now l.stores l.rules;
    }

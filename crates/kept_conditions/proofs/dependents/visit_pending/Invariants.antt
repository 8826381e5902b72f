use Rattle.std.proofs.Common.{false}
use Rattle.guard_policy.specs.code.RuleValues.{AreRuleValues}
use Rattle.guard_policy.specs.code.Views.{bytes_of, world}
use Rattle.guard_policy.specs.code.Worlds.{is_met_at}
use Rattle.kept_conditions.specs.code.Dependents.{Follow, VisitsSome, KeepsSound, turns}
use Rattle.kept_conditions.proofs.dependents.visit_pending.Given as goal

-- where a rule was visited and is not pending, its dependents were visited
abbrev pub invariant-loop-rule : goal.invariant-loop-rule
invariant-loop-rule l = record {
  visits : VisitsSome (is_met_at (world l.now.policy l.now.stores.now)) l.fn.dependents l.dependents l.count;
  follow : Follow (λ _. false) l.rule_uses l.dependents;
  sound : KeepsSound l.rule_uses l.fn.dependents l.dependents;
  kept : AreRuleValues (bytes_of l.now.policy) l.now.stores.now l.rules;
}

abbrev pub decreases-loop-rule : goal.decreases-loop-rule
decreases-loop-rule l = turns l.dependents

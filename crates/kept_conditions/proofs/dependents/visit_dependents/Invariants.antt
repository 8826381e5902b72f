use Rattle.std.proofs.Common.{take, ◌==◌}
use Rattle.std.specs.List.{list_any}
use Rattle.guard_policy.specs.code.RuleValues.{AreRuleValues}
use Rattle.guard_policy.specs.code.Views.{bytes_of, world}
use Rattle.guard_policy.specs.code.Worlds.{is_met_at}
use Rattle.kept_conditions.specs.declared.index.RuleUse.{RuleUse}
use Rattle.kept_conditions.proofs.VisitsSomeLemmas.{AreVisited}
use Rattle.kept_conditions.proofs.dependents.visit_dependents.Given as goal

-- the dependents of the uses so far are visited
abbrev pub invariant-loop-rule_use : goal.invariant-loop-rule_use
invariant-loop-rule_use l = record {
  visited : AreVisited (is_met_at (world l.now.policy l.now.stores.now)) (λ k. list_any (λ (x : RuleUse). x.dependent == k) (take l.rule_use-index l.rule_use-items)) l.fn.dependents l.dependents l.count;
  kept : AreRuleValues (bytes_of l.now.policy) l.now.stores.now l.rules;
}

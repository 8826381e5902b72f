use Rattle.kept_conditions.specs.declared.index.RuleUse.{RuleUse}
use Rattle.kept_conditions.proofs.SortLemmas.{has_same, rule_use_eq, rule_uses_rise, rises_still, same_rule_use}
use Rattle.kept_conditions.proofs.index.order_rule_uses.Goals as goal

pub returns-clause-same : goal.returns-clause-same
returns-clause-same c = has_same rule_use_eq same_rule_use _ _ _ c.sort_unstable.ensures.permutation c.dedup.ensures.filtered

pub returns-clause-sorted : goal.returns-clause-sorted
returns-clause-sorted c = rises_still rule_use_eq (λ (l : RuleUse). l.rule) _ _ c.dedup.ensures.filtered (rule_uses_rise _ c.sort_unstable.ensures.sorted)

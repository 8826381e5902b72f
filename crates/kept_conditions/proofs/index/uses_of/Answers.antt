use Rattle.std.proofs.Common.{◌-◌, nat_le, nat_lt, length, take, drop, rules}
use Rattle.std.proofs.lemmas.List.{take_rest}
use Rattle.std.proofs.lemmas.List.Sorted.{IsPartitionPoint-from_clause}
use Rattle.kept_conditions.specs.declared.index.RuleUse.{RuleUse}
use Rattle.kept_conditions.proofs.RuleUseLemmas.{found_between, parted_below, parted_upto}
use Rattle.kept_conditions.proofs.index.uses_of.Goals as goal

pub returns : goal.returns
returns c =
    let rule_uses = c.args.rule_uses.now in
    let rule = c.args.rule in
    let from = c.partition_point-first.result in
    let count = c.partition_point-count.result in
    let rest = take (length rule_uses - from) (drop from rule_uses) in
    let is = take_rest rule_uses from in
    let below = IsPartitionPoint-from_clause (λ (l : RuleUse). nat_lt l.rule rule) rule_uses from c.partition_point-first.ensures.partitioned (parted_below rule rule_uses c.requires) (λ a r q called. search rules) in
    let within = IsPartitionPoint-from_clause (λ (l : RuleUse). nat_le l.rule rule) rest count c.partition_point-count.ensures.partitioned (parted_upto rule from rule_uses rest is c.requires) (λ a r q called. search rules) in
    found_between rule rule_uses rest from count is below within

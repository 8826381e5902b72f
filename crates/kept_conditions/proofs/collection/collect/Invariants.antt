use Rattle.std.proofs.Common.{◌≡◌, drop, filter}
use Rattle.ifr_nodes.specs.Nodes.{nodes_of}
use Rattle.ifr_nodes.specs.Rules.{is_rule}
use Rattle.ifr_scopes.specs.code.Lists.{rules_left}
use Rattle.guard_policy.specs.code.RuleValues.{AreRuleValues}
use Rattle.guard_policy.specs.code.Views.{bytes_of, world}
use Rattle.guard_policy.specs.code.Worlds.{is_met_at}
use Rattle.kept_conditions.specs.code.Collection.{AreCollected, dependent_nodes}
use Rattle.kept_conditions.proofs.collection.collect.Given as goal

-- the dependents so far, and the rules that are left
abbrev pub invariant-loop-number : goal.invariant-loop-number
invariant-loop-number l = record {
  collected : AreCollected (nodes_of l.source.0.now) (λ place. is_met_at (world l.now.policy l.now.stores.now) place) l.number l.collected;
  kept : AreRuleValues (bytes_of l.now.policy) l.now.stores.now l.values;
  left : rules_left l.rules ≡ filter is_rule (drop l.number (dependent_nodes (nodes_of l.source.0.now)));
}

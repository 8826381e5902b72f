use Rattle.std.proofs.Common.{◌≡◌, ◌++◌, length}
use Rattle.std.specs.List.{flat_map}
use Rattle.ifr_nodes.specs.Nodes.{nodes_of}
use Rattle.ifr_scopes.specs.code.Lists.{rules_left}
use Rattle.check_audit.specs.Warnings.{asks_of_rule, asks_of_rules}
use Rattle.check_audit.proofs.asks.add_of_rules.Given as goal

-- with those of what is left all are added
abbrev pub invariant-loop-rule : goal.invariant-loop-rule
invariant-loop-rule l =
    l.warnings.items ++ flat_map (asks_of_rule (nodes_of l.fn.forms)) (rules_left l.rules) ≡ l.fn.warnings.items ++ asks_of_rules (nodes_of l.fn.forms)

abbrev pub decreases-loop-rule : goal.decreases-loop-rule
decreases-loop-rule l = length (rules_left l.rules)

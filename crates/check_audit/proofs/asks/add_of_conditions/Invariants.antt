use Rattle.std.proofs.Common.{◌≡◌, ◌++◌, length}
use Rattle.std.specs.List.{flat_map}
use Rattle.ifr_nodes.specs.Nodes.{nodes_of}
use Rattle.ifr_scopes.specs.code.AllConditionsLeft.{all_conditions_left}
use Rattle.check_audit.specs.Warnings.{named_in, asks_of_conditions}
use Rattle.check_audit.proofs.asks.add_of_conditions.Given as goal

-- with those of what is left all are added
abbrev pub invariant-loop-condition : goal.invariant-loop-condition
invariant-loop-condition l =
    l.warnings.items ++ flat_map (named_in (nodes_of l.fn.forms)) (all_conditions_left l.conditions) ≡ l.fn.warnings.items ++ asks_of_conditions (nodes_of l.fn.forms)

abbrev pub decreases-loop-condition : goal.decreases-loop-condition
decreases-loop-condition l = length (all_conditions_left l.conditions)

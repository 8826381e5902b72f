use Rattle.std.proofs.Common.{◌≡◌, ◌++◌, length, map, filter}
use Rattle.ifr_opcodes.specs.Forest.{Node}
use Rattle.ifr_nodes.specs.Nodes.{nodes_of}
use Rattle.ifr_nodes.specs.Rules.{is_rule}
use Rattle.ifr_scopes.specs.code.Lists.{rules_left}
use Rattle.kept_conditions.proofs.collection.add_rules.Given as goal

-- the places so far, with those of the rules that are left
abbrev pub invariant-loop-rule : goal.invariant-loop-rule
invariant-loop-rule l =
    l.places.items ++ map (λ (n : Node). n.place) (rules_left l.rules)
    ≡ l.fn.places.items ++ map (λ (n : Node). n.place) (filter is_rule (nodes_of l.forms))

abbrev pub decreases-loop-rule : goal.decreases-loop-rule
decreases-loop-rule l = length (rules_left l.rules)

use Rattle.std.proofs.Common.{◌≡◌, ◌++◌, length, map, filter}
use Rattle.ifr_opcodes.specs.Forest.{Node}
use Rattle.ifr_index.specs.code.Tables.{is_question_condition}
use Rattle.ifr_nodes.specs.Nodes.{nodes_of}
use Rattle.ifr_scopes.specs.code.AllConditionsLeft.{all_conditions_left}
use Rattle.guard_policy.specs.code.Views.{bytes_of}
use Rattle.kept_conditions.proofs.dependents.condition_dependents.Given as goal

-- the places so far, with those of the conditions that are left
abbrev pub invariant-loop-condition : goal.invariant-loop-condition
invariant-loop-condition l =
    l.numbers.items ++ map (λ (n : Node). n.place) (all_conditions_left l.conditions)
    ≡ map (λ (n : Node). n.place) (filter is_question_condition (nodes_of (bytes_of l.policy)))

abbrev pub decreases-loop-condition : goal.decreases-loop-condition
decreases-loop-condition l = length (all_conditions_left l.conditions)

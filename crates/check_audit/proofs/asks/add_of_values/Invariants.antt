use Rattle.std.proofs.Common.{◌≡◌, ◌++◌, length}
use Rattle.std.specs.List.{flat_map}
use Rattle.ifr_nodes.specs.Nodes.{nodes_of}
use Rattle.hii_questions.specs.code.Lists.{questions_left}
use Rattle.check_audit.specs.Warnings.{asks_of_asked, asks_of_values}
use Rattle.check_audit.proofs.asks.add_of_values.Given as goal

-- with those of what is left all are added
abbrev pub invariant-loop-question : goal.invariant-loop-question
invariant-loop-question l =
    l.warnings.items ++ flat_map (asks_of_asked (nodes_of l.fn.questions.ifr)) (questions_left l.left) ≡ l.fn.warnings.items ++ asks_of_values (nodes_of l.fn.questions.ifr)

abbrev pub decreases-loop-question : goal.decreases-loop-question
decreases-loop-question l = length (questions_left l.left)

use Rattle.std.proofs.Common.{◌≡◌, ◌++◌, length}
use Rattle.std.specs.List.{flat_map}
use Rattle.ifr_nodes.specs.Nodes.{nodes_of}
use Rattle.ifr_scopes.specs.code.Parts.{defaults_left}
use Rattle.hii_questions.specs.code.Views.{question_node}
use Rattle.check_audit.specs.Warnings.{asks_of_question, asks_of_value}
use Rattle.check_audit.proofs.asks.add_of_question.Given as goal

-- with those of the defaults that are left all are added
abbrev pub invariant-loop-default : goal.invariant-loop-default
invariant-loop-default l =
    l.warnings.items ++ flat_map (asks_of_value (nodes_of l.fn.questions.ifr)) (defaults_left l.defaults) ≡ l.fn.warnings.items ++ asks_of_question (nodes_of l.fn.questions.ifr) (question_node l.fn.question)

abbrev pub decreases-loop-default : goal.decreases-loop-default
decreases-loop-default l = length (defaults_left l.defaults)

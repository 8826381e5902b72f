use Rattle.std.proofs.Common.{◌≡◌, ◌++◌, length}
use Rattle.std.specs.List.{filter_map}
use Rattle.ifr_nodes.specs.Nodes.{defaults}
use Rattle.ifr_scopes.specs.code.Parts.{defaults_left}
use Rattle.hii_questions.specs.code.Views.{question_node, question_view}
use Rattle.check_audit.specs.GivenDefaults.{default_at}
use Rattle.check_audit.proofs.given_defaults.add_of_question.Given as goal

-- with those of the defaults that are left all are added
abbrev pub invariant-loop-default : goal.invariant-loop-default
invariant-loop-default l =
    l.warnings.items ++ filter_map (default_at l.fn.strings (question_view l.fn.question)) (defaults_left l.defaults) ≡ l.fn.warnings.items ++ filter_map (default_at l.fn.strings (question_view l.fn.question)) (defaults (question_node l.fn.question))

abbrev pub decreases-loop-default : goal.decreases-loop-default
decreases-loop-default l = length (defaults_left l.defaults)

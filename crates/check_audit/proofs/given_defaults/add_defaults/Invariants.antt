use Rattle.std.proofs.Common.{◌≡◌, ◌++◌, length}
use Rattle.std.specs.List.{flat_map}
use Rattle.ifr_nodes.specs.Nodes.{nodes_of}
use Rattle.hii_questions.specs.code.Lists.{questions_left}
use Rattle.check_audit.specs.GivenDefaults.{default_warnings, defaults_of}
use Rattle.check_audit.proofs.given_defaults.add_defaults.Given as goal

-- with those of the questions that are left all are added
abbrev pub invariant-loop-question : goal.invariant-loop-question
invariant-loop-question l =
    l.warnings.items ++ flat_map (defaults_of l.fn.strings) (questions_left l.left) ≡ l.fn.warnings.items ++ default_warnings l.fn.strings (nodes_of l.fn.questions.ifr)

abbrev pub decreases-loop-question : goal.decreases-loop-question
decreases-loop-question l = length (questions_left l.left)

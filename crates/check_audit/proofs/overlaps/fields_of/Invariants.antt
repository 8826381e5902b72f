use Rattle.std.proofs.Common.{◌≡◌, ◌++◌, length}
use Rattle.std.specs.List.{filter_map}
use Rattle.ifr_nodes.specs.Nodes.{nodes_of}
use Rattle.hii_questions.specs.Fields.{questions}
use Rattle.hii_questions.specs.code.Lists.{questions_left}
use Rattle.check_audit.specs.Overlaps.{laid_of}
use Rattle.check_audit.proofs.overlaps.fields_of.Given as goal

-- with those of the questions that are left all fields are kept
abbrev pub invariant-loop-question : goal.invariant-loop-question
invariant-loop-question l =
    l.laid.items ++ filter_map laid_of (questions_left l.left) ≡ filter_map laid_of (questions (nodes_of l.fn.questions.ifr))

abbrev pub decreases-loop-question : goal.decreases-loop-question
decreases-loop-question l = length (questions_left l.left)

use Rattle.std.proofs.Common.{◌≡◌, ◌++◌, length, map}
use Rattle.std.specs.List.{flat_map}
use Rattle.ifr_nodes.specs.Nodes.{nodes_of}
use Rattle.ifr_nodes.specs.code.Checked.{AreNodesOf}
use Rattle.hii_questions.specs.Fields.{questions}
use Rattle.hii_questions.specs.code.Lists.{questions_left}
use Rattle.guard_policy.specs.code.Views.{bytes_of}
use Rattle.question_audit.proofs.AskedLemmas.{question_nodes}
use Rattle.question_rows.specs.code.Deciding.{decisions_on, told}
use Rattle.question_rows.proofs.decisions.decisions_when.Given as goal

-- the decisions on the questions that are left are left to be added
abbrev pub invariant-loop-question : goal.invariant-loop-question
invariant-loop-question g l =
    let bytes = bytes_of l.fn.page.policy in
    let its = decisions_on l.fn.when (nodes_of bytes) in
    record {
      added : map told l.decisions.items ++ flat_map its (questions_left l.questions) ≡ flat_map its (questions (nodes_of bytes));
      nodes : AreNodesOf bytes (question_nodes (questions_left l.questions));
    }

abbrev pub decreases-loop-question : goal.decreases-loop-question
decreases-loop-question g l = length (questions_left l.questions)

use Rattle.std.proofs.Common.{◌≡◌}
use Rattle.std.specs.Prelude.{filter}
use Rattle.ifr_nodes.specs.Nodes.{nodes_of}
use Rattle.hii_questions.specs.Changes.{holds_others}
use Rattle.hii_questions.specs.Fields.{questions}
use Rattle.hii_questions.specs.code.Lists.{questions_left}
use Rattle.script_audit.specs.Apply.{is_settled}
use Rattle.script_audit.proofs.unsubmitted.are_same.Given as goal

-- the questions that were met hold the same
abbrev pub invariant-loop-question : goal.invariant-loop-question
invariant-loop-question l =
    let test = holds_others l.one l.other in
    record {
      can : goal.iterator-loop-question.can_next l.left;
      ends : goal.iterator-loop-question.is_finite l.left;
      same : is_settled (filter test (questions_left l.left)) ≡ is_settled (filter test (questions (nodes_of l.questions.ifr)));
    }

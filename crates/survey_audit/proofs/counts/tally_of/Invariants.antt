use Rattle.std.specs.List.{AllByRecursion}
use Rattle.ifr_nodes.specs.Nodes.{nodes_of}
use Rattle.hii_questions.specs.Fields.{questions}
use Rattle.hii_questions.specs.code.Lists.{questions_left}
use Rattle.guard_policy.specs.code.Views.{bytes_of}
use Rattle.form_page.specs.code.PageViews.{world_of}
use Rattle.image_audit.proofs.AskedLemmas.{IsAskedOf}
use Rattle.survey_audit.proofs.TallyLemmas.{IsCounted}
use Rattle.survey_audit.proofs.counts.tally_of.Given as goal

-- the questions before those that are left are counted
abbrev pub invariant-loop-question : goal.invariant-loop-question
invariant-loop-question g l =
    let bytes = bytes_of l.page.policy in
    record {
      can : (goal.iterator-loop-question g).can_next l.left;
      ends : (goal.iterator-loop-question g).is_finite l.left;
      asked : AllByRecursion (IsAskedOf bytes) (questions_left l.left);
      counted : IsCounted (world_of l.page) (questions (nodes_of bytes)) (questions_left l.left) l.tally;
    }

use Rattle.std.specs.Prelude.{◌≡◌, ◌+◌, filter, length}
use Rattle.std.specs.List.{AllByRecursion}
use Rattle.ifr_nodes.specs.Nodes.{nodes_of}
use Rattle.hii_questions.specs.Fields.{questions}
use Rattle.hii_questions.specs.code.Lists.{questions_left}
use Rattle.guard_policy.specs.code.Views.{bytes_of}
use Rattle.form_page.specs.code.PageViews.{world_of}
use Rattle.image_audit.proofs.AskedLemmas.{IsAskedOf}
use Rattle.report_audit.specs.Counts.{stands_so}
use Rattle.report_audit.proofs.counts.count_of.Given as goal

-- the questions before those that are left are counted
abbrev pub invariant-loop-question : goal.invariant-loop-question
invariant-loop-question g l =
    let bytes = bytes_of l.page.policy in
    let stands = stands_so (world_of l.page) l.standing in
    record {
      can : (goal.iterator-loop-question g).can_next l.left;
      ends : (goal.iterator-loop-question g).is_finite l.left;
      asked : AllByRecursion (IsAskedOf bytes) (questions_left l.left);
      counted : l.count + length (filter stands (questions_left l.left)) ≡ length (filter stands (questions (nodes_of bytes)));
    }

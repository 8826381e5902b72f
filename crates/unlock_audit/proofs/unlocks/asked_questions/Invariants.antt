use Rattle.std.proofs.Common.{◌≡◌, ◌++◌, map}
use Rattle.std.specs.Prelude.{filter}
use Rattle.std.specs.List.{AllByRecursion}
use Rattle.hii_questions.specs.code.Lists.{questions_left}
use Rattle.hii_questions.specs.code.Views.{question_view}
use Rattle.session_steps.specs.State.{world_of}
use Rattle.image_audit.proofs.AskedLemmas.{IsAskedOf}
use Rattle.unlock_audit.specs.Unlock.{asked_questions, is_asked_over}
use Rattle.unlock_audit.specs.code.Owning.{AreOwn}
use Rattle.unlock_audit.proofs.unlocks.asked_questions.Given as goal

-- those of the questions that are left are left to be added
abbrev pub invariant-loop-question : goal.invariant-loop-question
invariant-loop-question l =
    let s = l.browser.state in
    record {
      can : goal.iterator-loop-question.can_next l.left;
      ends : goal.iterator-loop-question.is_finite l.left;
      asked : AllByRecursion (IsAskedOf s.ifr) (questions_left l.left);
      added : map question_view l.asked.items ++ filter (is_asked_over (world_of s)) (questions_left l.left) ≡ asked_questions s;
      own : AreOwn s.ifr l.asked.items;
    }

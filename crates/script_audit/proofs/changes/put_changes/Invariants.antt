use Rattle.std.specs.Prelude.{filter}
use Rattle.std.specs.List.{AllByRecursion, flat_map}
use Rattle.hii_bytes.specs.Watching.{pen_of}
use Rattle.hii_bytes.specs.code.Writing.{Stands}
use Rattle.hii_questions.specs.Changes.{holds_others}
use Rattle.hii_questions.specs.code.Lists.{questions_left}
use Rattle.guard_policy.specs.code.Views.{bytes_of}
use Rattle.image_audit.proofs.AskedLemmas.{IsAskedOf}
use Rattle.script_audit.specs.Apply.{change_told, changes_told}
use Rattle.script_audit.specs.code.Pages.{seen_in}
use Rattle.script_audit.proofs.changes.put_changes.Given as goal

-- the questions before those that are left are written
abbrev pub invariant-loop-question : goal.invariant-loop-question
invariant-loop-question g l =
    let a = seen_in l.page in
    record {
      can : (goal.iterator-loop-question g).can_next l.left;
      ends : (goal.iterator-loop-question g).is_finite l.left;
      asked : AllByRecursion (IsAskedOf (bytes_of l.page.policy)) (questions_left l.left);
      text : Stands (pen_of g.W.Write.contents l.fn.out) (pen_of g.W.Write.contents l.out) (changes_told l.telling a l.one l.other)
          (flat_map (λ q. change_told l.telling a l.one l.other q.node) (filter (holds_others l.one l.other) (questions_left l.left)));
    }

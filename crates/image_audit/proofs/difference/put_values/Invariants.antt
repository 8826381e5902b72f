use Rattle.std.specs.Prelude.{filter}
use Rattle.std.specs.List.{AllByRecursion, flat_map}
use Rattle.hii_bytes.specs.Watching.{pen_of}
use Rattle.hii_bytes.specs.code.Writing.{Stands}
use Rattle.hii_varstore.specs.Stores.{shape_of}
use Rattle.hii_questions.specs.Changes.{holds_others}
use Rattle.hii_questions.specs.code.Lists.{questions_left}
use Rattle.hii_questions.specs.code.LyingIn.{LieIn}
use Rattle.guard_policy.specs.code.Views.{bytes_of}
use Rattle.question_audit.specs.code.Pages.{audited}
use Rattle.image_audit.specs.Difference.{value_told_as, values_told}
use Rattle.image_audit.proofs.AskedLemmas.{IsAskedOf}
use Rattle.image_audit.proofs.difference.put_values.Given as goal

-- the lines of the questions before those that are left are written
abbrev pub invariant-loop-question : goal.invariant-loop-question
invariant-loop-question g l =
    let a = audited l.one in
    let b = audited l.other in
    record {
      can : (goal.iterator-loop-question g).can_next l.left;
      ends : (goal.iterator-loop-question g).is_finite l.left;
      asked : AllByRecursion (IsAskedOf (bytes_of l.one.policy)) (questions_left l.left);
      lie : LieIn (shape_of l.one.stores.now) (questions_left l.left);
      text : Stands (pen_of g.W.Write.contents l.fn.out) (pen_of g.W.Write.contents l.out) (values_told l.telling a b)
          (flat_map (value_told_as l.telling a b) (filter (holds_others a.stores b.stores) (questions_left l.left)));
    }

use Rattle.std.specs.Prelude.{filter}
use Rattle.std.specs.List.{flat_map}
use Rattle.std.specs.Option.{option_copied}
use Rattle.hii_bytes.specs.Watching.{pen_of}
use Rattle.hii_bytes.specs.code.Writing.{Stands}
use Rattle.ifr_nodes.specs.Nodes.{nodes_of}
use Rattle.hii_varstore.specs.Stores.{shape_of}
use Rattle.hii_questions.specs.code.Lists.{questions_left}
use Rattle.hii_questions.specs.code.LyingIn.{LieIn}
use Rattle.image_audit.specs.Lines.{fields_told, is_told, question_told}
use Rattle.image_audit.proofs.lines.put_told_fields.Given as goal

-- the lines of the questions before those that are left are written
abbrev pub invariant-loop-question : goal.invariant-loop-question
invariant-loop-question g l =
    let ns = nodes_of l.questions.ifr in
    let others = option_copied l.others in
    record {
      can : (goal.iterator-loop-question g).can_next l.left;
      ends : (goal.iterator-loop-question g).is_finite l.left;
      lie : LieIn (shape_of l.stores) (questions_left l.left);
      text : Stands (pen_of g.W.Write.contents l.fn.out) (pen_of g.W.Write.contents l.out) (fields_told l.telling ns l.stores others)
          (flat_map (question_told l.telling ns l.stores) (filter (is_told l.stores others) (questions_left l.left)));
    }

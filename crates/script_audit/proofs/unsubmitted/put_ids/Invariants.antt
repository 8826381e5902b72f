use Rattle.std.specs.Prelude.{filter}
use Rattle.hii_bytes.specs.Watching.{pen_of}
use Rattle.hii_bytes.specs.code.Writing.{Stands}
use Rattle.ifr_nodes.specs.Nodes.{nodes_of}
use Rattle.hii_questions.specs.Changes.{holds_others}
use Rattle.hii_questions.specs.Fields.{questions}
use Rattle.hii_questions.specs.code.Lists.{questions_left}
use Rattle.script_audit.specs.Apply.{ids_told}
use Rattle.script_audit.proofs.unsubmitted.put_ids.Given as goal

-- the ids of the questions before those that are left are written
abbrev pub invariant-loop-question : goal.invariant-loop-question
invariant-loop-question g l =
    let test = holds_others l.one l.other in
    record {
      can : (goal.iterator-loop-question g).can_next l.left;
      ends : (goal.iterator-loop-question g).is_finite l.left;
      text : Stands (pen_of g.W.Write.contents l.fn.out) (pen_of g.W.Write.contents l.out) (ids_told (filter test (questions (nodes_of l.questions.ifr)))) (ids_told (filter test (questions_left l.left)));
    }

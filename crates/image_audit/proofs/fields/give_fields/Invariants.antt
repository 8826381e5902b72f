use Rattle.std.proofs.Common.{◌≡◌}
use Rattle.std.specs.Prelude.{filter}
use Rattle.ifr_nodes.specs.Nodes.{nodes_of}
use Rattle.hii_varstore.specs.Stores.{shape_of}
use Rattle.hii_questions.specs.Changes.{holds_others}
use Rattle.hii_questions.specs.Fields.{questions}
use Rattle.hii_questions.specs.code.Lists.{questions_left}
use Rattle.hii_questions.specs.code.LyingIn.{LieIn}
use Rattle.image_audit.specs.Difference.{given_from}
use Rattle.image_audit.proofs.fields.give_fields.Given as goal

-- the fields of the questions that are left are left to be given
abbrev pub invariant-loop-question : goal.invariant-loop-question
invariant-loop-question l = record {
  can : goal.iterator-loop-question.can_next l.left;
  ends : goal.iterator-loop-question.is_finite l.left;
  same : shape_of l.to ≡ shape_of l.source;
  lie : LieIn (shape_of l.source) (questions_left l.left);
  given : given_from l.source l.to (filter (holds_others l.one l.source) (questions_left l.left))
      ≡ given_from l.source l.fn.to (filter (holds_others l.one l.source) (questions (nodes_of l.questions.ifr)));
}

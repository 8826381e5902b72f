use Rattle.std.proofs.Common.{◌≡◌, ◌+◌, ◌≤◌, length, filter}
use Rattle.ifr_nodes.specs.Nodes.{nodes_of}
use Rattle.hii_varstore.specs.Stores.{shape_of}
use Rattle.hii_questions.specs.Fields.{questions}
use Rattle.hii_questions.specs.code.Lists.{questions_left}
use Rattle.hii_questions.specs.code.LyingIn.{LieIn}
use Rattle.laid_defaults.specs.Laying.{is_of, laid_each}
use Rattle.laid_defaults.specs.code.Views.{setup_view}
use Rattle.laid_defaults.proofs.laying.lay_each.Given as goal

-- the defaults that are left, laid over what was laid, are all; those so far are not more than the questions that were met
abbrev pub invariant-loop-question : goal.invariant-loop-question
invariant-loop-question l = record {
  can : (goal.iterator-loop-question).can_next l.left;
  ends : (goal.iterator-loop-question).is_finite l.left;
  shape : shape_of l.stores ≡ shape_of l.fn.stores;
  lie : LieIn (shape_of l.fn.stores) (questions_left l.left);
  few : l.count + length (filter (is_of l.computed l.class) (questions_left l.left)) ≤ length (filter (is_of l.computed l.class) (questions (nodes_of l.setup.forms.now)));
  laid : laid_each (setup_view l.setup) l.class record { stores = l.stores; count = l.count } (filter (is_of l.computed l.class) (questions_left l.left))
      ≡ laid_each (setup_view l.setup) l.class record { stores = l.fn.stores; count = 0 } (filter (is_of l.computed l.class) (questions (nodes_of l.setup.forms.now)));
}

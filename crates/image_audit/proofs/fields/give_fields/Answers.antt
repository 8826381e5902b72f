use Rattle.std.proofs.Common.{◌∙◌, List, ◌∷◌, ap, subst, sym}
use Rattle.std.specs.Prelude.{filter}
use Rattle.std.proofs.lemmas.Bool.{cond-false, cond-true}
use Rattle.hii_varstore.specs.Layout.{Shape}
use Rattle.hii_varstore.specs.Stores.{StoreMap, shape_of}
use Rattle.hii_questions.specs.Changes.{holds_others}
use Rattle.hii_questions.specs.Fields.{Asked}
use Rattle.hii_questions.specs.code.Lists.{questions_left}
use Rattle.hii_questions.specs.code.LyingIn.{LieIn, LiesIn}
use Rattle.hii_questions.specs.code.Views.{question_view}
use Rattle.image_audit.specs.Difference.{given_from}
use Rattle.image_audit.proofs.fields.give_fields.Goals as goal

pub loop-question-init : goal.loop-question-init
loop-question-init c = record {
  can = tt;
  ends = tt;
  same = c.requires.same;
  lie = subst (LieIn (shape_of c.args.source.now)) (sym c.all-left.ensures) c.requires.lie;
  given = ap (λ (qs : List Asked). given_from c.args.source.now c.args.to.now (filter (holds_others c.args.one.now c.args.source.now) qs)) c.all-left.ensures;
}

pub differs-requires-clause-lies : goal.differs-requires-clause-lies
differs-requires-clause-lies c =
    let lies = (subst (LieIn (shape_of c.args.source.now)) c.in-Some.ensures.steps c.loop-question.invariant.lie).0 in
    subst (λ (shape : Shape). LiesIn shape (question_view c.in-Some.question)) (sym c.requires.one) lies

pub give_field-requires-clause-lies : goal.give_field-requires-clause-lies
give_field-requires-clause-lies c = (subst (LieIn (shape_of c.args.source.now)) c.in-Some.ensures.steps c.loop-question.invariant.lie).0

pub loop-question-preserved-then-differs : goal.loop-question-preserved-then-differs
loop-question-preserved-then-differs c =
    let source = c.args.source.now in
    let test = holds_others c.args.one.now source in
    let q = question_view c.in-Some.question in
    let after = filter test (questions_left c.next.new.self) in
    let told = ap (filter test) c.in-Some.ensures.steps ∙ cond-true (test q) (q ∷ after) after (sym c.differs.ensures ∙ c.if-differs.true) in
    record {
      can = tt;
      ends = tt;
      same = c.give_field.ensures.same;
      lie = (subst (LieIn (shape_of source)) c.in-Some.ensures.steps c.loop-question.invariant.lie).1;
      given = ap (λ (m : StoreMap). given_from source m after) c.give_field.ensures.given ∙ sym (ap (given_from source c.loop-question.to) told) ∙ c.loop-question.invariant.given;
    }

pub loop-question-preserved : goal.loop-question-preserved
loop-question-preserved c =
    let source = c.args.source.now in
    let test = holds_others c.args.one.now source in
    let q = question_view c.in-Some.question in
    let after = filter test (questions_left c.next.new.self) in
    let told = ap (filter test) c.in-Some.ensures.steps ∙ cond-false (test q) (q ∷ after) after (sym c.differs.ensures ∙ c.if-differs.false) in
    record {
      can = tt;
      ends = tt;
      same = c.loop-question.invariant.same;
      lie = (subst (LieIn (shape_of source)) c.in-Some.ensures.steps c.loop-question.invariant.lie).1;
      given = sym (ap (given_from source c.loop-question.to) told) ∙ c.loop-question.invariant.given;
    }

use Rattle.std.proofs.Common.{◌≡◌, ◌∙◌, List, ℕ, ap, rules, subst, sym}
use Rattle.std.specs.Prelude.{filter}
use Rattle.std.specs.List.{AllByRecursion}
use Rattle.ifr_nodes.specs.Nodes.{nodes_of}
use Rattle.hii_varstore.specs.Stores.{StoreMap, shape_of}
use Rattle.hii_questions.specs.Changes.{holds_others}
use Rattle.hii_questions.specs.Fields.{Asked, questions}
use Rattle.hii_questions.specs.code.Lists.{questions_left}
use Rattle.hii_questions.specs.code.LyingIn.{LieIn, LiesIn}
use Rattle.hii_questions.specs.code.Views.{question_view}
use Rattle.guard_policy.specs.code.Views.{bytes_of}
use Rattle.question_audit.specs.code.Pages.{audited}
use Rattle.image_audit.specs.Difference.{value_told_as}
use Rattle.image_audit.proofs.AskedLemmas.{IsAskedOf, questions_are_asked}
use Rattle.image_audit.proofs.TellingLemmas.{all_left, past_failing, past_passing}
use Rattle.image_audit.proofs.difference.put_values.Goals as goal

pub loop-question-init : goal.loop-question-init
loop-question-init g c =
    let one = c.args.one in
    let bytes = bytes_of one.policy in
    let line = value_told_as c.args.telling (audited one) (audited c.args.other) in
    let all : questions_left c.all-left.result ≡ questions (nodes_of bytes) = c.all-left.ensures ∙ ap (λ (b : List ℕ). questions (nodes_of b)) c.questions.ensures.own in
    record {
      can = search rules;
      ends = search rules;
      asked = subst (AllByRecursion (IsAskedOf bytes)) (sym all) (questions_are_asked bytes one.policy.accepted.checked.spelled);
      lie = subst (LieIn (shape_of one.stores.now)) (sym all) c.requires.lie;
      text = all_left line _ _ _ (ap (filter (holds_others one.stores.now c.args.other.stores.now)) all);
    }

pub differs-requires-clause-lies : goal.differs-requires-clause-lies
differs-requires-clause-lies g c =
    let lies = (subst (LieIn (shape_of c.args.one.stores.now)) c.in-Some.ensures.steps c.loop-question.invariant.lie).0 in
    subst (λ (m : StoreMap). LiesIn (shape_of m) (question_view c.in-Some.question)) (sym c.stores.ensures) lies

pub put_value-requires-clause-node : goal.put_value-requires-clause-node
put_value-requires-clause-node g c = (subst (AllByRecursion (IsAskedOf (bytes_of c.args.one.policy))) c.in-Some.ensures.steps c.loop-question.invariant.asked).0.0

pub put_value-requires-clause-asked : goal.put_value-requires-clause-asked
put_value-requires-clause-asked g c = (subst (AllByRecursion (IsAskedOf (bytes_of c.args.one.policy))) c.in-Some.ensures.steps c.loop-question.invariant.asked).0.1

pub loop-question-preserved-then-differs : goal.loop-question-preserved-then-differs
loop-question-preserved-then-differs g c =
    let one = c.args.one in
    let other = c.args.other in
    let line = value_told_as c.args.telling (audited one) (audited other) in
    let q = question_view c.in-Some.question in
    let steps = c.in-Some.ensures.steps in
    let inv = c.loop-question.invariant in
    let told = rw (c.stores.ensures, c.stores-in-Some.ensures) at (sym c.differs.ensures ∙ c.if-differs.true) in
    record {
      can = search rules;
      ends = search rules;
      asked = (subst (AllByRecursion (IsAskedOf (bytes_of one.policy))) steps inv.asked).1;
      lie = (subst (LieIn (shape_of one.stores.now)) steps inv.lie).1;
      text = past_passing line (holds_others one.stores.now other.stores.now) _ _ _ _ _ _ q steps told inv.text c.put_value.ensures;
    }

pub loop-question-preserved : goal.loop-question-preserved
loop-question-preserved g c =
    let one = c.args.one in
    let other = c.args.other in
    let line = value_told_as c.args.telling (audited one) (audited other) in
    let q = question_view c.in-Some.question in
    let steps = c.in-Some.ensures.steps in
    let inv = c.loop-question.invariant in
    let told = rw (c.stores.ensures, c.stores-in-Some.ensures) at (sym c.differs.ensures ∙ c.if-differs.false) in
    record {
      can = search rules;
      ends = search rules;
      asked = (subst (AllByRecursion (IsAskedOf (bytes_of one.policy))) steps inv.asked).1;
      lie = (subst (LieIn (shape_of one.stores.now)) steps inv.lie).1;
      text = past_failing line (holds_others one.stores.now other.stores.now) _ _ _ _ _ q steps told inv.text;
    }

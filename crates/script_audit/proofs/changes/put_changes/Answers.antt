use Rattle.std.proofs.Common.{◌≡◌, ◌∙◌, List, ℕ, ap, rules, subst, sym}
use Rattle.std.specs.Prelude.{filter}
use Rattle.std.specs.List.{AllByRecursion}
use Rattle.ifr_nodes.specs.Nodes.{nodes_of}
use Rattle.hii_questions.specs.Changes.{holds_others}
use Rattle.hii_questions.specs.Fields.{Asked, questions}
use Rattle.hii_questions.specs.code.Lists.{questions_left}
use Rattle.hii_questions.specs.code.Views.{question_view}
use Rattle.guard_policy.specs.code.Views.{bytes_of}
use Rattle.image_audit.proofs.AskedLemmas.{IsAskedOf, questions_are_asked}
use Rattle.image_audit.proofs.TellingLemmas.{all_left, past_failing, past_passing}
use Rattle.script_audit.specs.Apply.{change_told}
use Rattle.script_audit.specs.code.Pages.{seen_in}
use Rattle.script_audit.proofs.changes.put_changes.Goals as goal

pub loop-question-init : goal.loop-question-init
loop-question-init g c =
    let page = c.args.page in
    let bytes = bytes_of page.policy in
    let line = λ (q : Asked). change_told c.args.telling (seen_in page) c.args.one.now c.args.other.now q.node in
    let all : questions_left c.all-left.result ≡ questions (nodes_of bytes) = c.all-left.ensures ∙ ap (λ (b : List ℕ). questions (nodes_of b)) c.questions.ensures.own in
    record {
      can = search rules;
      ends = search rules;
      asked = subst (AllByRecursion (IsAskedOf bytes)) (sym all) (questions_are_asked bytes page.policy.accepted.checked.spelled);
      text = all_left line _ _ _ (ap (filter (holds_others c.args.one.now c.args.other.now)) all);
    }

pub put_change-requires-clause-node : goal.put_change-requires-clause-node
put_change-requires-clause-node g c = (subst (AllByRecursion (IsAskedOf (bytes_of c.args.page.policy))) c.in-Some.ensures.steps c.loop-question.invariant.asked).0.0

pub put_change-requires-clause-asked : goal.put_change-requires-clause-asked
put_change-requires-clause-asked g c = (subst (AllByRecursion (IsAskedOf (bytes_of c.args.page.policy))) c.in-Some.ensures.steps c.loop-question.invariant.asked).0.1

pub loop-question-preserved-then-differs : goal.loop-question-preserved-then-differs
loop-question-preserved-then-differs g c =
    let page = c.args.page in
    let line = λ (q : Asked). change_told c.args.telling (seen_in page) c.args.one.now c.args.other.now q.node in
    let q = question_view c.in-Some.question in
    let steps = c.in-Some.ensures.steps in
    let inv = c.loop-question.invariant in
    record {
      can = search rules;
      ends = search rules;
      asked = (subst (AllByRecursion (IsAskedOf (bytes_of page.policy))) steps inv.asked).1;
      text = past_passing line (holds_others c.args.one.now c.args.other.now) _ _ _ _ _ _ q steps (sym c.differs.ensures ∙ c.if-differs.true) inv.text c.put_change.ensures;
    }

pub loop-question-preserved : goal.loop-question-preserved
loop-question-preserved g c =
    let page = c.args.page in
    let line = λ (q : Asked). change_told c.args.telling (seen_in page) c.args.one.now c.args.other.now q.node in
    let q = question_view c.in-Some.question in
    let steps = c.in-Some.ensures.steps in
    let inv = c.loop-question.invariant in
    record {
      can = search rules;
      ends = search rules;
      asked = (subst (AllByRecursion (IsAskedOf (bytes_of page.policy))) steps inv.asked).1;
      text = past_failing line (holds_others c.args.one.now c.args.other.now) _ _ _ _ _ q steps (sym c.differs.ensures ∙ c.if-differs.false) inv.text;
    }

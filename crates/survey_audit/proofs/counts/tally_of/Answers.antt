use Rattle.std.proofs.Common.{◌≡◌, ◌∙◌, ℕ, List, ap, refl, rules, subst, sym}
use Rattle.std.specs.List.{AllByRecursion}
use Rattle.ifr_nodes.specs.Nodes.{nodes_of}
use Rattle.ifr_nodes.specs.code.Checked.{IsNodeOf}
use Rattle.hii_questions.specs.Fields.{asked, questions}
use Rattle.hii_questions.specs.code.Lists.{questions_left}
use Rattle.hii_questions.specs.code.Views.{question_node, question_view}
use Rattle.guard_policy.specs.Policy.{fixed}
use Rattle.guard_policy.specs.code.Answers.{unless}
use Rattle.guard_policy.specs.code.Views.{bytes_of, world}
use Rattle.guard_policy.specs.declared.policy.Policy.{Policy}
use Rattle.guard_policy.specs.declared.support.Decision.TheVariants.{Changeable}
use Rattle.form_page.specs.code.PageViews.{world_of}
use Rattle.question_audit.proofs.KeptLemmas.{kept_told}
use Rattle.image_audit.proofs.AskedLemmas.{IsAskedOf, questions_are_asked}
use Rattle.survey_audit.proofs.TallyLemmas.{counted_all, counted_more, counted_room, counted_start, few_questions}
use Rattle.survey_audit.proofs.counts.tally_of.Goals.{After-question_changeable_by-verdict}
use Rattle.survey_audit.proofs.counts.tally_of.Goals as goal

pub loop-question-init : goal.loop-question-init
loop-question-init g c =
    let page = c.args.page in
    let bytes = bytes_of page.policy in
    let all : questions_left c.all-left.result ≡ questions (nodes_of bytes) = c.all-left.ensures ∙ ap (λ (b : List ℕ). questions (nodes_of b)) c.questions.ensures.own in
    record {
      can = search rules;
      ends = search rules;
      asked = subst (AllByRecursion (IsAskedOf bytes)) (sym all) (questions_are_asked bytes page.policy.accepted.checked.spelled);
      counted = counted_start (world_of page) (questions (nodes_of bytes)) (questions_left c.all-left.result) _ all (few_questions bytes page.policy.accepted.checked) (c.none-tally.ensures (world_of page));
    }

pub question_changeable_by-verdict-requires-clause-node : goal.question_changeable_by-verdict-requires-clause-node
question_changeable_by-verdict-requires-clause-node g c =
    let is = (subst (AllByRecursion (IsAskedOf (bytes_of c.args.page.policy))) c.in-Some.ensures.steps c.loop-question.invariant.asked).0 in
    subst (λ (p : Policy). IsNodeOf (bytes_of p) (question_node c.in-Some.question)) (sym c.policy.ensures) is.0

pub question_changeable_by-verdict-requires-clause-asked : goal.question_changeable_by-verdict-requires-clause-asked
question_changeable_by-verdict-requires-clause-asked g c =
    let q = question_view c.in-Some.question in
    let is = (subst (AllByRecursion (IsAskedOf (bytes_of c.args.page.policy))) c.in-Some.ensures.steps c.loop-question.invariant.asked).0 in
    subst (λ (p : Policy). q ≡ asked (nodes_of (bytes_of p)) q.node) (sym c.policy.ensures) is.1

-- what forbids that the question is changed
said : (g : _) (c : After-question_changeable_by-verdict g) → c.question_changeable_by-verdict.result ≡ unless (fixed (world_of c.args.page) (question_node c.in-Some.question))
said g c =
    let page = c.args.page in
    let stores = page.stores.now in
    let n = question_node c.in-Some.question in
    let statement = c.in-Some.question.statement in
    let is = (subst (AllByRecursion (IsAskedOf (bytes_of page.policy))) c.in-Some.ensures.steps c.loop-question.invariant.asked).0 in
    let tells = kept_told page.policy c.policy.result stores (g.C.Conditions.holding c.conditions.result.now) (Changeable statement) c.policy.ensures c.conditions.ensures is.0 refl in
    c.question_changeable_by-verdict.ensures statement refl stores tells ∙ ap (λ (p : Policy). unless (fixed (world p stores) n)) c.policy.ensures

pub is_for_good-is_settled-requires-clause-node : goal.is_for_good-is_settled-requires-clause-node
is_for_good-is_settled-requires-clause-node g c = (subst (AllByRecursion (IsAskedOf (bytes_of c.args.page.policy))) c.in-Some.ensures.steps c.loop-question.invariant.asked).0.0

pub is_for_good-is_settled-requires-clause-verdict : goal.is_for_good-is_settled-requires-clause-verdict
is_for_good-is_settled-requires-clause-verdict g c = said g (goal.at.is_for_good-is_settled-requires-clause-verdict g c).After-question_changeable_by-verdict

pub is_for_good-is_settled-requires-clause-standing : goal.is_for_good-is_settled-requires-clause-standing
is_for_good-is_settled-requires-clause-standing g c =
    c.of-standing.ensures (fixed (world_of c.args.page) (question_node c.in-Some.question)) (said g (goal.at.is_for_good-is_settled-requires-clause-standing g c).After-question_changeable_by-verdict)

pub with-tally-requires : goal.with-tally-requires
with-tally-requires g c =
    counted_room (world_of c.args.page) _ _ _ (question_view c.in-Some.question) _ c.in-Some.ensures.steps c.loop-question.invariant.counted

pub loop-question-preserved : goal.loop-question-preserved
loop-question-preserved g c =
    let page = c.args.page in
    let w = world_of page in
    let q = question_view c.in-Some.question in
    let steps = c.in-Some.ensures.steps in
    let inv = c.loop-question.invariant in
    let at = goal.at.loop-question-preserved g c in
    let stands = c.of-standing.ensures (fixed w q.node) (said g at.After-question_changeable_by-verdict) in
    record {
      can = search rules;
      ends = search rules;
      asked = (subst (AllByRecursion (IsAskedOf (bytes_of page.policy))) steps inv.asked).1;
      counted = counted_more w _ _ _ q _ _ steps inv.counted (c.with-tally.ensures ∙ rw (stands, c.is_for_good-is_settled.ensures) refl);
    }

pub returns : goal.returns
returns g c = counted_all (world_of c.args.page) _ _ _ c.in_default.ensures.steps.0 c.loop-question.invariant.counted

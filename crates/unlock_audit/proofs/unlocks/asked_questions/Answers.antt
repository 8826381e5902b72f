use Rattle.std.proofs.Common.{◌≡◌, ◌∙◌, List, ℕ, [], ap, rules, subst, sym}
use Rattle.std.specs.Prelude.{filter}
use Rattle.std.specs.List.{AllByRecursion}
use Rattle.std.proofs.lemmas.List.Elements.{All-nil, All-push, All-same}
use Rattle.ifr_nodes.specs.Nodes.{nodes_of}
use Rattle.ifr_nodes.specs.code.Checked.{IsNodeOf}
use Rattle.hii_questions.specs.Fields.{asked, questions}
use Rattle.hii_questions.specs.code.Lists.{questions_left}
use Rattle.hii_questions.specs.code.Views.{question_node, question_view}
use Rattle.guard_policy.specs.code.Views.{bytes_of}
use Rattle.guard_policy.specs.World.{World}
use Rattle.session_steps.specs.State.{world_of}
use Rattle.image_audit.proofs.AskedLemmas.{IsAskedOf, questions_are_asked}
use Rattle.unlock_audit.specs.Unlock.{is_asked_over}
use Rattle.unlock_audit.specs.code.Owning.{IsOwn}
use Rattle.unlock_audit.proofs.ToldLemmas.{failing_left, passing_added}
use Rattle.unlock_audit.proofs.unlocks.asked_questions.Goals as goal

pub loop-question-init : goal.loop-question-init
loop-question-init c =
    let s = c.args.browser.now.state in
    let policy = c.page-page.result.policy in
    let all : questions_left c.all-left.result ≡ questions (nodes_of s.ifr) = c.all-left.ensures ∙ ap (λ (b : List ℕ). questions (nodes_of b)) (c.questions.ensures.own ∙ c.page-page.ensures.bytes) in
    record {
      can = search rules;
      ends = search rules;
      asked = subst (AllByRecursion (IsAskedOf s.ifr)) (sym all) (subst (λ (b : List ℕ). AllByRecursion (IsAskedOf b) (questions (nodes_of b))) c.page-page.ensures.bytes (questions_are_asked (bytes_of policy) policy.accepted.checked.spelled));
      added = rw c.new-asked.ensures.items (ap (filter (is_asked_over (world_of s))) all);
      own = All-same (IsOwn s.ifr) _ [] c.new-asked.ensures.items (All-nil (IsOwn s.ifr));
    }

pub is_asked-requires-clause-node : goal.is_asked-requires-clause-node
is_asked-requires-clause-node c =
    let s = c.args.browser.now.state in
    let is = (subst (AllByRecursion (IsAskedOf s.ifr)) c.in-Some.ensures.steps c.loop-question.invariant.asked).0 in
    subst (λ (b : List ℕ). IsNodeOf b (question_node c.in-Some.question)) (sym c.page-page.ensures.bytes) is.0

pub is_asked-requires-clause-asked : goal.is_asked-requires-clause-asked
is_asked-requires-clause-asked c =
    let s = c.args.browser.now.state in
    let q = question_view c.in-Some.question in
    let is = (subst (AllByRecursion (IsAskedOf s.ifr)) c.in-Some.ensures.steps c.loop-question.invariant.asked).0 in
    subst (λ (b : List ℕ). q ≡ asked (nodes_of b) q.node) (sym c.page-page.ensures.bytes) is.1

pub loop-question-preserved-in-Continue-1 : goal.loop-question-preserved-in-Continue-1
loop-question-preserved-in-Continue-1 c =
    let s = c.args.browser.now.state in
    let q = question_view c.in-Some.question in
    let steps = c.in-Some.ensures.steps in
    let inv = c.loop-question.invariant in
    let is = (subst (AllByRecursion (IsAskedOf s.ifr)) steps inv.asked).0 in
    let passes = ap (λ (w : World). is_asked_over w q) (sym c.page-page.ensures.world) ∙ sym c.is_asked.ensures ∙ c.if-is_asked.true in
    record {
      can = search rules;
      ends = search rules;
      asked = (subst (AllByRecursion (IsAskedOf s.ifr)) steps inv.asked).1;
      added = passing_added question_view (is_asked_over (world_of s)) _ _ _ _ _ c.in-Some.question c.in_ok-push.ensures.items steps passes inv.added;
      own = All-same (IsOwn s.ifr) _ _ c.in_ok-push.ensures.items (All-push (IsOwn s.ifr) _ c.in-Some.question inv.own (record { node = is.0; asked = is.1 }));
    }

pub loop-question-preserved : goal.loop-question-preserved
loop-question-preserved c =
    let s = c.args.browser.now.state in
    let q = question_view c.in-Some.question in
    let steps = c.in-Some.ensures.steps in
    let inv = c.loop-question.invariant in
    let fails = ap (λ (w : World). is_asked_over w q) (sym c.page-page.ensures.world) ∙ sym c.is_asked.ensures ∙ c.if-is_asked.false in
    record {
      can = search rules;
      ends = search rules;
      asked = (subst (AllByRecursion (IsAskedOf s.ifr)) steps inv.asked).1;
      added = failing_left question_view (is_asked_over (world_of s)) _ _ _ _ c.in-Some.question steps fails inv.added;
      own = inv.own;
    }

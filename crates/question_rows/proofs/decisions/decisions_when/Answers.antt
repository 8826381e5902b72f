use Rattle.std.proofs.Common.{◌≡◌, ◌++◌, ◌∙◌, ℕ, List, map, rules, subst, sym, ap}
use Rattle.std.specs.List.Sorted.{IsPermutation, IsStableByKey}
use Rattle.std.specs.Ordering.{nat_cmp}
use Rattle.std.proofs.lemmas.List.Sorted.{answers_always}
use Rattle.ifr_nodes.specs.Nodes.{nodes_of}
use Rattle.ifr_nodes.specs.code.Checked.{AreNodesOf, IsNodeOf}
use Rattle.hii_questions.specs.Fields.{Asked, questions}
use Rattle.hii_questions.specs.code.Lists.{questions_left}
use Rattle.hii_questions.specs.code.Views.{question_node, question_view}
use Rattle.guard_policy.specs.code.Views.{bytes_of}
use Rattle.guard_policy.specs.declared.policy.Policy.{Policy}
use Rattle.guard_policy.proofs.OptionLemmas.{first_of, rest_of}
use Rattle.question_audit.proofs.AskedLemmas.{question_nodes, questions_are_nodes}
use Rattle.question_rows.specs.code.Deciding.{decisions_on, told}
use Rattle.question_rows.specs.declared.decisions.Decision.{Decision}
use Rattle.question_rows.proofs.DecidingLemmas.{all_added, none_more, one_added, sorted_are}
use Rattle.question_rows.proofs.decisions.decisions_when.Goals as goal

pub loop-question-init : goal.loop-question-init
loop-question-init g c =
    let page = c.args.page in
    let bytes = bytes_of page.policy in
    let left = questions_left c.all-questions.result in
    let all : left ≡ questions (nodes_of bytes) = c.all-questions.ensures ∙ ap (λ (b : List ℕ). questions (nodes_of b)) c.questions.ensures.own in
    record {
      added = all_added (decisions_on c.args.when (nodes_of bytes)) _ left _ c.new-decisions.ensures.items all;
      nodes = subst (λ (qs : List Asked). AreNodesOf bytes (question_nodes qs)) (sym all) (questions_are_nodes bytes page.policy.accepted.checked.spelled);
    }

pub add_decisions-requires : goal.add_decisions-requires
add_decisions-requires g c =
    subst (λ (p : Policy). IsNodeOf (bytes_of p) (question_node c.in-Some.question)) (sym c.policy-policy.ensures) (first_of _ _ _ _ (ap question_nodes c.in-Some.ensures.steps) c.loop-question.invariant.nodes)

pub loop-question-preserved : goal.loop-question-preserved
loop-question-preserved g c =
    let ns = nodes_of (bytes_of c.args.page.policy) in
    let q = question_view c.in-Some.question in
    let more = c.in_ok-add_decisions.ensures ∙ ap (λ (p : Policy). map told c.loop-question.decisions.items ++ decisions_on c.args.when (nodes_of (bytes_of p)) q) c.policy-policy.ensures in
    record {
      added = one_added (decisions_on c.args.when ns) _ _ q _ _ _ c.in-Some.ensures.steps more c.loop-question.invariant.added;
      nodes = rest_of _ _ _ _ (ap question_nodes c.in-Some.ensures.steps) c.loop-question.invariant.nodes;
    }

pub returns : goal.returns
returns g c =
    let ns = nodes_of (bytes_of c.args.page.policy) in
    let xs = c.loop-question.decisions.items in
    let ys = c.sort_by_key.new.self.items in
    let sorts = c.in_ok-sort_by_key.ensures in
    let by : Decision → ℕ = λ d. d.by in
    sorted_are c.args.when ns xs ys (none_more (decisions_on c.args.when ns) xs _ _ c.in_default.ensures.steps.0 c.loop-question.invariant.added) sorts.permutation
    (sorts.sorted by (answers_always _ _ _ (λ f a r g called. search rules)))
    (sorts.stable by (answers_always _ _ _ (λ f a r g called. search rules)))

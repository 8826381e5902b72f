use Rattle.std.proofs.Common.{◌≡◌, ◌∙◌, ◌+◌, ◌<◌, ◌^◌, List, ℕ, Bool, true, ap, arith, rules, subst, sym}
use Rattle.std.specs.Prelude.{filter, length}
use Rattle.std.specs.List.{AllByRecursion}
use Rattle.ifr_nodes.specs.Nodes.{nodes_of}
use Rattle.hii_questions.specs.Fields.{Asked, questions}
use Rattle.hii_questions.specs.code.Lists.{questions_left}
use Rattle.hii_questions.specs.code.Views.{question_view}
use Rattle.hii_questions.proofs.EntryLemmas.{few_questions}
use Rattle.guard_policy.specs.code.Views.{bytes_of}
use Rattle.form_page.specs.code.PageViews.{world_of}
use Rattle.image_audit.proofs.AskedLemmas.{IsAskedOf, questions_are_asked}
use Rattle.report_audit.specs.Counts.{stands_so}
use Rattle.report_audit.proofs.CountLemmas.{room}
use Rattle.report_audit.proofs.counts.count_of.Goals as goal

pub loop-question-init : goal.loop-question-init
loop-question-init g c =
    let page = c.args.page in
    let bytes = bytes_of page.policy in
    let stands : Asked → Bool = stands_so (world_of page) c.args.standing in
    let all : questions_left c.all-left.result ≡ questions (nodes_of bytes) = c.all-left.ensures ∙ ap (λ (b : List ℕ). questions (nodes_of b)) c.questions.ensures.own in
    record {
      can = search rules;
      ends = search rules;
      asked = subst (AllByRecursion (IsAskedOf bytes)) (sym all) (questions_are_asked bytes page.policy.accepted.checked.spelled);
      counted = omega (arith, ap (λ (qs : List Asked). length (filter stands qs)) all);
    }

pub overflow_add-count : goal.overflow_add-count
overflow_add-count g c =
    let page = c.args.page in
    let bytes = bytes_of page.policy in
    let stands : Asked → Bool = stands_so (world_of page) c.args.standing in
    let q = question_view c.in-Some.question in
    let is : stands q ≡ true = sym c.stands_so.ensures ∙ c.if-stands_so.true in
    let fits : c.loop-question.count + 1 < 2 ^ 64 =
    room stands q (questions (nodes_of bytes)) _ _ c.loop-question.count c.in-Some.ensures.steps is c.loop-question.invariant.counted (few_questions bytes page.policy.accepted) in
    omega arith

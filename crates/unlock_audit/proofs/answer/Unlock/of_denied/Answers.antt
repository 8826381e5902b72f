use Rattle.std.proofs.Common.{◌≡◌, List, None, Option, Some, ℕ, ap, refl, subst, ◌∙◌}
use Rattle.std.specs.Prelude.{IfOk}
use Rattle.ifr_nodes.specs.Nodes.{nodes_of}
use Rattle.hii_questions.specs.code.Views.{question_node, question_view}
use Rattle.guard_policy.specs.code.Views.{bytes_of}
use Rattle.guard_policy.specs.declared.denial.Denial.{Denial}
use Rattle.form_page.specs.code.PageViews.{world_of}
use Rattle.question_audit.specs.Reasons.{all_reasons}
use Rattle.unlock_audit.specs.Asking.{Asking, asking}
use Rattle.unlock_audit.specs.Moves.{moves}
use Rattle.unlock_audit.specs.Unlock.{searched, unlock_unless}
use Rattle.unlock_audit.specs.code.Answers.{unlock_meant}
use Rattle.unlock_audit.proofs.AnswerLemmas.{final_is, new_run_is}
use Rattle.unlock_audit.proofs.answer.Unlock.of_denied.Goals as goal

pub returns-in-Some-clause-meant : goal.returns-in-Some-clause-meant
returns-in-Some-clause-meant c =
    let s = c.args.browser.now.state in
    let q = question_view c.args.question in
    let page = c.page-page.result in
    let final = final_is s q (bytes_of page.policy) (world_of page) (all_reasons (world_of page) q) (Some c.in-Some.reason) c.in-Some.ensures c.page-page.ensures.bytes refl c.page-page.ensures.world in
    c.untried.ensures.meant ∙ ap (unlock_unless s c.args.most q c.args.verdict) final

pub returns-clause-meant : goal.returns-clause-meant
returns-clause-meant c =
    let s = c.args.browser.now.state in
    let q = question_view c.args.question in
    let page = c.page-page.result in
    let final = final_is s q (bytes_of page.policy) (world_of page) (all_reasons (world_of page) q) None c.in_default.ensures c.page-page.ensures.bytes refl c.page-page.ensures.world in
    let asked = c.in_ok-asking.ensures ∙ ap (λ (b : List ℕ). asking (nodes_of b) (question_node c.args.question)) (ap bytes_of c.policy.ensures ∙ c.page-page.ensures.bytes) in
    subst (λ (o : Option Denial). IfOk c.searched.result (λ found. unlock_meant found ≡ unlock_unless s c.args.most q c.args.verdict o)) final
    (subst (λ (a : Asking). IfOk c.searched.result (λ found. unlock_meant found ≡ searched s c.args.most q c.args.verdict a.ids (moves (nodes_of s.ifr) a))) asked c.searched.ensures.meant)

pub searched-requires-clause-again : goal.searched-requires-clause-again
searched-requires-clause-again c =
    let page = c.page-page.result in
    let q = question_view c.args.question in
    new_run_is c.args.browser.now.state q (world_of page) (all_reasons (world_of page) q) c.needs_new_run-again.result c.needs_new_run-again.ensures refl c.page-page.ensures.world

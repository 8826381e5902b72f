use Rattle.std.proofs.Common.{◌≡◌, Option, ap, subst, sym, ◌∙◌}
use Rattle.std.specs.Prelude.{IfOk}
use Rattle.hii_questions.specs.code.Views.{question_node, question_view}
use Rattle.guard_policy.specs.Policy.{fixed}
use Rattle.guard_policy.specs.World.{World}
use Rattle.guard_policy.specs.code.Answers.{unless}
use Rattle.guard_policy.specs.declared.denial.Denial.{Denial}
use Rattle.session_steps.specs.State.{world_of}
use Rattle.unlock_audit.specs.Unlock.{unlock_by}
use Rattle.unlock_audit.specs.code.Answers.{unlock_meant}
use Rattle.unlock_audit.proofs.AnswerLemmas.{allowed, denied}
use Rattle.unlock_audit.proofs.answer.Unlock.of.Goals as goal

pub returns-in-Ok-clause-meant : goal.returns-in-Ok-clause-meant
returns-in-Ok-clause-meant c =
    let s = c.args.browser.now.state in
    let n = question_node c.args.question in
    let verdict = c.verdict_of.ensures ∙ ap (λ (w : World). unless (fixed w n)) c.page.ensures.world in
    c.untried.ensures.meant ∙ ap (unlock_by s c.args.most (question_view c.args.question)) (sym (allowed (fixed (world_of s) n) c.in-Ok.field-0 (sym c.in-Ok.is ∙ verdict)))

pub returns-in-Err-clause-meant : goal.returns-in-Err-clause-meant
returns-in-Err-clause-meant c =
    let s = c.args.browser.now.state in
    let n = question_node c.args.question in
    let verdict = c.verdict_of.ensures ∙ ap (λ (w : World). unless (fixed w n)) c.page.ensures.world in
    subst (λ (o : Option Denial). IfOk c.of_denied.result (λ found. unlock_meant found ≡ unlock_by s c.args.most (question_view c.args.question) o)) (sym (denied (fixed (world_of s) n) c.in-Err.verdict (sym c.in-Err.is ∙ verdict))) c.of_denied.ensures.meant

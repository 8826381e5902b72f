use Rattle.std.proofs.Common.{ℕ, ap, subst, ◌∙◌}
use Rattle.hii_bytes.specs.Watching.{Puts}
use Rattle.hii_questions.specs.code.Views.{question_view}
use Rattle.condition_text.proofs.WriteLemmas.{written_as}
use Rattle.unlock_audit.specs.Told.{unlock_told}
use Rattle.unlock_audit.specs.Unlock.{Unlock, unlock}
use Rattle.session_steps.specs.State.{State}
use Rattle.unlock_audit.specs.code.Answers.{unlock_meant}
use Rattle.unlock_audit.proofs.ToldLemmas.{most_is}
use Rattle.unlock_audit.proofs.unlocks.put_question.Goals as goal

pub returns-clause-told : goal.returns-clause-told
returns-clause-told g c =
    let s = c.args.browser.now.state in
    let q = question_view c.args.question in
    let meant = c.in_ok-found.ensures.meant ∙ ap (λ (n : ℕ). unlock s n q) (c.min-most.ensures ∙ most_is c.args.left) in
    (ap (λ (u : Unlock). u.tried) meant, written_as (subst (λ (st : State). Puts g.W.Write.contents c.args.out.now c.put_told.new.out (unlock_told c.args.telling st q (unlock_meant c.in_ok-found.found))) c.of.ensures.same c.in_ok-put_told.ensures.told) (ap (λ (u : Unlock). unlock_told c.args.telling s q u) meant))

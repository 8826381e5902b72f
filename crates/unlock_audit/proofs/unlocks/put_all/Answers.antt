use Rattle.std.proofs.Common.{[], List, ℕ, ap, map, refl, subst, ◌∙◌}
use Rattle.std.specs.Prelude.{OnErr, OnOk}
use Rattle.hii_bytes.specs.Watching.{Puts, pen_of}
use Rattle.hii_bytes.proofs.WritingLemmas.{writes_nil}
use Rattle.hii_questions.specs.code.Views.{question_view}
use Rattle.hii_questions.specs.declared.question.Question.{Question}
use Rattle.question_audit.specs.code.Beginnings.{Begins}
use Rattle.question_audit.proofs.BeginningLemmas.{at_error}
use Rattle.unlock_audit.specs.Told.{each_told, unlocks_told}
use Rattle.unlock_audit.specs.Unlock.{all_tries}
use Rattle.unlock_audit.proofs.unlocks.put_all.Goals as goal

pub returns-in_err-names-clause-begun : goal.returns-in_err-names-clause-begun
returns-in_err-names-clause-begun g c = at_error c.from_residual.result (record { front = []; rest = _; parts = refl; written = writes_nil _ })

pub returns-in_err-asked-clause-begun : goal.returns-in_err-asked-clause-begun
returns-in_err-asked-clause-begun g c = at_error c.from_residual-in_err-asked.result (record { front = []; rest = _; parts = refl; written = writes_nil _ })

pub returns-clause-told : goal.returns-clause-told
unfolding unlocks_told
returns-clause-told g c =
    let t = c.args.telling in
    let s = c.discard.new.browser.state in
    let same = ap (λ (qs : List Question). each_told t s all_tries (map question_view qs)) c.as_slice.ensures.value ∙ ap (each_told t s all_tries) c.in_ok-asked.ensures.asked ∙ ap (unlocks_told t) c.discard.ensures in
    subst (λ (text : List ℕ). OnOk c.put_each.result (Puts g.W.Write.contents c.args.out.now c.put_each.new.out text)) same c.put_each.ensures.told

pub returns-clause-begun : goal.returns-clause-begun
unfolding unlocks_told
returns-clause-begun g c =
    let t = c.args.telling in
    let s = c.discard.new.browser.state in
    let same = ap (λ (qs : List Question). each_told t s all_tries (map question_view qs)) c.as_slice.ensures.value ∙ ap (each_told t s all_tries) c.in_ok-asked.ensures.asked ∙ ap (unlocks_told t) c.discard.ensures in
    subst (λ (text : List ℕ). OnErr c.put_each.result (Begins (pen_of g.W.Write.contents c.args.out.now) (pen_of g.W.Write.contents c.put_each.new.out) text)) same c.put_each.ensures.begun

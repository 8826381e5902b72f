use Rattle.std.proofs.Common.{◌∙◌, inl, inr, refl, subst, sym}
use Rattle.std.proofs.lemmas.Result.{on_err_weaker}
use Rattle.hii_varstore.specs.Layout.{Shape}
use Rattle.hii_varstore.specs.code.Table.{AreBuffers}
use Rattle.question_audit.proofs.BeginningLemmas.{at_error}
use Rattle.survey_commands.proofs.sets.put_kept.Goals as goal

pub read-requires-clause-buffers : goal.read-requires-clause-buffers
read-requires-clause-buffers g c =
    subst (λ (s : Shape). AreBuffers s.buffers) (c.layout.ensures ∙ sym c.requires.laid) c.buffers.ensures.sound

pub returns-in_err-kept-clause-begun : goal.returns-in_err-kept-clause-begun
returns-in_err-kept-clause-begun g c = λ list stands. at_error c.from_residual.result (inl refl)

pub returns-clause-told : goal.returns-clause-told
returns-clause-told g c = λ list stands. rw c.in_ok-kept.ensures.read at c.put_page.ensures.told list stands

pub returns-clause-begun : goal.returns-clause-begun
returns-clause-begun g c = λ list stands.
    on_err_weaker c.put_page.result (λ begun. inr begun) (rw c.in_ok-kept.ensures.read at c.put_page.ensures.begun list stands)

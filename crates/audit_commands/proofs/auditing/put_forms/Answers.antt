use Rattle.std.proofs.Common.{◌≡◌, ◌+◌, ℕ, [], ap, subst, refl, inl, inr}
use Rattle.std.proofs.lemmas.Result.{IfErr-weaker, on_ok_weaker, on_err_weaker}
use Rattle.hii_bytes.specs.Watching.{Writes, pen_of}
use Rattle.question_audit.specs.Audited.{Audited}
use Rattle.question_audit.specs.FormLines.{questions_text}
use Rattle.question_audit.specs.Reach.{TellsReached}
use Rattle.question_audit.specs.code.Pages.{audited}
use Rattle.question_audit.specs.code.Beginnings.{Begins}
use Rattle.question_audit.specs.declared.origin.Origin.{Origin}
use Rattle.question_objects.specs.FormSets.{form_set_objects}
use Rattle.audit_answers.proofs.EndingLemmas.{none_written}
use Rattle.survey_audit.specs.AuditedAt.{audited_at}
use Rattle.audit_commands.proofs.AuditingLemmas.{of_error}
use Rattle.audit_commands.proofs.auditing.put_forms.Goals as goal

pub put_questions-requires : goal.put_questions-requires
put_questions-requires g c = rw (c.page.ensures.stores, c.page.ensures.bytes) c.page.ensures.fields

pub put_questions_objects-requires-clause-lie : goal.put_questions_objects-requires-clause-lie
put_questions_objects-requires-clause-lie g c = rw (c.page-in-Objects.ensures.stores, c.page-in-Objects.ensures.bytes) c.page-in-Objects.ensures.fields

pub put_questions_objects-requires-clause-in_list : goal.put_questions_objects-requires-clause-in_list
put_questions_objects-requires-clause-in_list g c = rw c.page-in-Objects.ensures.bytes c.args.opened.now.inside

pub returns-in-Lines-clause-told : goal.returns-in-Lines-clause-told
returns-in-Lines-clause-told g c = λ asked origin is.
    let s = c.args.opened.now.browser.state in
    let same : audited c.page.result ≡ audited_at s =
    rw (c.page.ensures.world, c.page.ensures.spoken, c.page.ensures.language, c.page.ensures.stores, c.page.ensures.bytes) refl in
    on_ok_weaker c.put_questions.result
    (λ w. (
      questions_text (audited_at s) w.0,
      rw c.in-Lines.is record { start = s; opens = is.opens; is_reached = w.0; reached = subst (λ d. TellsReached d w.0) c.page.ensures.world w.1; told = refl },
      subst (λ (a : Audited). Writes (pen_of g.W.Write.contents c.args.out.now) (pen_of g.W.Write.contents c.put_questions.new.out) (questions_text a w.0)) same w.2,
    ))
    c.put_questions.ensures.written

pub returns-in-Lines-clause-begun : goal.returns-in-Lines-clause-begun
returns-in-Lines-clause-begun g c = λ asked origin is.
    of_error c.put_questions.result (λ fault e. ([], rw c.in-Lines.is refl, none_written g.W.Write.contents c.args.out.now c.put_questions.new.out e.1)) c.put_questions.ensures.nothing

pub returns-in-Lines-clause-memory : goal.returns-in-Lines-clause-memory
returns-in-Lines-clause-memory g c = IfErr-weaker c.put_questions.result _ _ (λ fault e. e.0) c.put_questions.ensures.nothing

pub returns-in-Objects-clause-told : goal.returns-in-Objects-clause-told
returns-in-Objects-clause-told g c = λ asked origin is.
    let s = c.args.opened.now.browser.state in
    let place : c.args.opened.now.place.place ≡ origin.place + is.opens.source.place = ap (λ (o : Origin). o.place) is.placed in
    let same : audited c.page-in-Objects.result ≡ audited_at s =
    rw (c.page-in-Objects.ensures.world, c.page-in-Objects.ensures.spoken, c.page-in-Objects.ensures.language, c.page-in-Objects.ensures.stores, c.page-in-Objects.ensures.bytes) refl in
    on_ok_weaker c.put_questions_objects.result
    (λ w. (
      form_set_objects (audited_at s) w.0 (origin.place + is.opens.source.place),
      rw c.in-Objects.is record { start = s; opens = is.opens; is_reached = w.0; reached = subst (λ d. TellsReached d w.0) c.page-in-Objects.ensures.world w.1; told = refl },
      subst (λ (p : ℕ). Writes (pen_of g.W.Write.contents c.args.out.now) (pen_of g.W.Write.contents c.put_questions_objects.new.out) (form_set_objects (audited_at s) w.0 p)) place
          (subst (λ (a : Audited). Writes (pen_of g.W.Write.contents c.args.out.now) (pen_of g.W.Write.contents c.put_questions_objects.new.out) (form_set_objects a w.0 c.args.opened.now.place.place)) same w.2),
    ))
    c.put_questions_objects.ensures.written

pub returns-in-Objects-clause-begun : goal.returns-in-Objects-clause-begun
returns-in-Objects-clause-begun g c = λ asked origin is.
    let s = c.args.opened.now.browser.state in
    let place : c.args.opened.now.place.place ≡ origin.place + is.opens.source.place = ap (λ (o : Origin). o.place) is.placed in
    let same : audited c.page-in-Objects.result ≡ audited_at s =
    rw (c.page-in-Objects.ensures.world, c.page-in-Objects.ensures.spoken, c.page-in-Objects.ensures.language, c.page-in-Objects.ensures.stores, c.page-in-Objects.ensures.bytes) refl in
    on_err_weaker c.put_questions_objects.result
    (λ e. elim e [
      | inl none ↦ ([], rw c.in-Objects.is (inl refl), none_written g.W.Write.contents c.args.out.now c.put_questions_objects.new.out none)
      | inr w ↦
          let begun = subst (λ (p : ℕ). Begins (pen_of g.W.Write.contents c.args.out.now) (pen_of g.W.Write.contents c.put_questions_objects.new.out) (form_set_objects (audited_at s) w.0 p)) place
          (subst (λ (a : Audited). Begins (pen_of g.W.Write.contents c.args.out.now) (pen_of g.W.Write.contents c.put_questions_objects.new.out) (form_set_objects a w.0 c.args.opened.now.place.place)) same w.2) in (
            begun.front,
            rw c.in-Objects.is (inr (
              form_set_objects (audited_at s) w.0 (origin.place + is.opens.source.place),
              record { start = s; opens = is.opens; is_reached = w.0; reached = subst (λ d. TellsReached d w.0) c.page-in-Objects.ensures.world w.1; told = refl },
              begun.rest,
              begun.parts,
            )),
            begun.written,
          )
    ])
    c.put_questions_objects.ensures.begun

pub returns-in-Objects-clause-memory : goal.returns-in-Objects-clause-memory
returns-in-Objects-clause-memory g c = c.put_questions_objects.ensures.refused

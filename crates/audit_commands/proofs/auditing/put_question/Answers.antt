use Rattle.std.proofs.Common.{◌≡◌, subst, refl, inr}
use Rattle.std.proofs.lemmas.Result.{IfOk-weaker, on_err_weaker}
use Rattle.question_audit.specs.Audited.{Audited}
use Rattle.question_audit.specs.code.Pages.{audited}
use Rattle.question_audit.specs.QuestionFacts.{BeginsQuestionText, IsQuestionText}
use Rattle.question_audit.specs.declared.origin.Origin.{Origin}
use Rattle.question_objects.specs.Objects.{BeginsQuestionObjectText, IsQuestionObject}
use Rattle.survey_audit.specs.AuditedAt.{audited_at}
use Rattle.audit_commands.proofs.auditing.put_question.Goals as goal

pub returns-in-Lines-clause-told : goal.returns-in-Lines-clause-told
returns-in-Lines-clause-told g c = λ asked origin is.
    let s = c.args.opened.now.browser.state in
    let same : audited c.page.result ≡ audited_at s =
    rw (c.page.ensures.world, c.page.ensures.spoken, c.page.ensures.language, c.page.ensures.stores, c.page.ensures.bytes) refl in
    IfOk-weaker c.put_question_with_id.result _ _
    (λ is_there told. (
      told.0,
      rw c.in-Lines.is record {
        start = s;
        opens = is.opens;
        told = subst (λ (o : Origin). IsQuestionText is_there (audited_at s) o c.args.id told.0) is.placed
            (subst (λ (a : Audited). IsQuestionText is_there a c.args.opened.now.place c.args.id told.0) same told.1);
      },
      told.2,
    ))
    c.put_question_with_id.ensures.told

pub returns-in-Lines-clause-begun : goal.returns-in-Lines-clause-begun
returns-in-Lines-clause-begun g c = λ asked origin is.
    let s = c.args.opened.now.browser.state in
    let same : audited c.page.result ≡ audited_at s =
    rw (c.page.ensures.world, c.page.ensures.spoken, c.page.ensures.language, c.page.ensures.stores, c.page.ensures.bytes) refl in
    on_err_weaker c.put_question_with_id.result
    (λ begun. (
      begun.0,
      rw c.in-Lines.is (inr (
        s,
        is.opens,
        subst (λ (o : Origin). BeginsQuestionText (audited_at s) o c.args.id begun.0) is.placed (subst (λ (a : Audited). BeginsQuestionText a c.args.opened.now.place c.args.id begun.0) same begun.1),
      )),
      begun.2,
    ))
    c.put_question_with_id.ensures.begun

pub returns-in-Lines-clause-memory : goal.returns-in-Lines-clause-memory
returns-in-Lines-clause-memory g c = c.put_question_with_id.ensures.refused

pub put_question_with_id-requires-clause-lie : goal.put_question_with_id-requires-clause-lie
put_question_with_id-requires-clause-lie g c = rw (c.page.ensures.stores, c.page.ensures.bytes) c.page.ensures.fields

pub put_question_with_id-requires-clause-in_list : goal.put_question_with_id-requires-clause-in_list
put_question_with_id-requires-clause-in_list g c = rw c.page.ensures.bytes c.args.opened.now.inside

pub returns-in-Objects-clause-told : goal.returns-in-Objects-clause-told
returns-in-Objects-clause-told g c = λ asked origin is.
    let s = c.args.opened.now.browser.state in
    let same : audited c.page-in-Objects.result ≡ audited_at s =
    rw (c.page-in-Objects.ensures.world, c.page-in-Objects.ensures.spoken, c.page-in-Objects.ensures.language, c.page-in-Objects.ensures.stores, c.page-in-Objects.ensures.bytes) refl in
    IfOk-weaker c.put_question_object.result _ _
    (λ is_there told. (
      told.0,
      rw c.in-Objects.is record {
        start = s;
        opens = is.opens;
        told = subst (λ (o : Origin). IsQuestionObject is_there (audited_at s) o c.args.id told.0) is.placed
            (subst (λ (a : Audited). IsQuestionObject is_there a c.args.opened.now.place c.args.id told.0) same told.1);
      },
      told.2,
    ))
    c.put_question_object.ensures.told

pub returns-in-Objects-clause-begun : goal.returns-in-Objects-clause-begun
returns-in-Objects-clause-begun g c = λ asked origin is.
    let s = c.args.opened.now.browser.state in
    let same : audited c.page-in-Objects.result ≡ audited_at s =
    rw (c.page-in-Objects.ensures.world, c.page-in-Objects.ensures.spoken, c.page-in-Objects.ensures.language, c.page-in-Objects.ensures.stores, c.page-in-Objects.ensures.bytes) refl in
    on_err_weaker c.put_question_object.result
    (λ begun. (
      begun.0,
      rw c.in-Objects.is (inr (
        s,
        is.opens,
        subst (λ (o : Origin). BeginsQuestionObjectText (audited_at s) o c.args.id begun.0) is.placed (subst (λ (a : Audited). BeginsQuestionObjectText a c.args.opened.now.place c.args.id begun.0) same begun.1),
      )),
      begun.2,
    ))
    c.put_question_object.ensures.begun

pub returns-in-Objects-clause-memory : goal.returns-in-Objects-clause-memory
returns-in-Objects-clause-memory g c = c.put_question_object.ensures.refused

pub put_question_object-requires-clause-lie : goal.put_question_object-requires-clause-lie
put_question_object-requires-clause-lie g c = rw (c.page-in-Objects.ensures.stores, c.page-in-Objects.ensures.bytes) c.page-in-Objects.ensures.fields

pub put_question_object-requires-clause-in_list : goal.put_question_object-requires-clause-in_list
put_question_object-requires-clause-in_list g c = rw c.page-in-Objects.ensures.bytes c.args.opened.now.inside

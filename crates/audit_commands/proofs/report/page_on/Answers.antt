use Rattle.std.proofs.Common.{◌≡◌, inl, option_map, refl, subst}
use Rattle.std.proofs.lemmas.Result.{IfErr-weaker, IfOk-weaker, err_from_is_err_and}
use Rattle.question_audit.specs.Audited.{Audited}
use Rattle.question_audit.specs.Reach.{TellsReached}
use Rattle.question_audit.specs.code.Pages.{audited}
use Rattle.report_audit.specs.Reports.{IsPage, report}
use Rattle.survey_audit.specs.AuditedAt.{audited_at}
use Rattle.audit_commands.proofs.report.page_on.Goals as goal

pub returns-in_err-opened-clause-refused : goal.returns-in_err-opened-clause-refused
returns-in_err-opened-clause-refused c =
    let p = err_from_is_err_and c.from_residual.result c.from_residual.ensures.1 in
    rw (p.1, p.2) c.in_err-opened.ensures.refused

pub report_page-requires : goal.report_page-requires
report_page-requires c = rw (c.page.ensures.stores, c.page.ensures.bytes) c.page.ensures.fields

pub returns-clause-told : goal.returns-clause-told
returns-clause-told c =
    let s = c.in_ok-opened.opened.browser.state in
    let is = c.in_ok-opened.ensures.opened in
    let same : audited c.page.result ≡ audited_at s = rw (c.page.ensures.world, c.page.ensures.spoken, c.page.ensures.language, c.page.ensures.stores, c.page.ensures.bytes) refl in
    IfOk-weaker c.report_page.result _ _
    (λ held w. record {
      start = s;
      opens = is.opens;
      is_reached = w.0;
      reached = subst (λ d. TellsReached d w.0) c.page.ensures.world w.1;
      is = subst (λ (a : Audited). IsPage (report a w.0) (option_map (λ bytes. bytes.items) held)) same w.2;
    })
    c.report_page.ensures.told

pub returns-clause-refused : goal.returns-clause-refused
returns-clause-refused c = IfErr-weaker c.report_page.result _ _ (λ fault e. inl e) c.report_page.ensures.refused

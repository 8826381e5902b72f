use Rattle.std.proofs.Common.{◌∙◌, ap}
use Rattle.ifr_opcodes.specs.Fields.{form_set_title}
use Rattle.ifr_scopes.specs.code.Lists.{form_set_node}
use Rattle.guard_policy.specs.code.Views.{bytes_of}
use Rattle.form_page.specs.code.PageViews.{texts_of}
use Rattle.question_audit.proofs.AroundLemmas.{same_forms}
use Rattle.report_audit.proofs.HeadLemmas.{form_set_found}
use Rattle.report_audit.proofs.heads.report_title.Goals as goal

pub returns : goal.returns
returns g c =
    let page = c.args.page in
    let own = same_forms c.forms.result.now c.policy.result page.policy c.forms.ensures c.policy.ensures in
    let op = form_set_found _ (bytes_of page.policy) _ (form_set_node c.formset.result) _ own c.formset.ensures.1 c.op.ensures.bytes in
    c.text.ensures ∙ ap (texts_of page) (c.title.ensures ∙ ap form_set_title op)

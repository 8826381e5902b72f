use Rattle.std.proofs.Common.{sym}
use Rattle.hii_questions.specs.code.Views.{question_node, question_view}
use Rattle.guard_policy.proofs.IndexedLemmas.{of_statement}
use Rattle.form_page.specs.code.PageViews.{world_of}
use Rattle.question_audit.proofs.AroundLemmas.{guards_found, same_forms}
use Rattle.question_audit.proofs.ReasonLemmas.{reasons_there}
use Rattle.question_audit.proofs.reasons.Reasons.of.Goals as goal

pub returns : goal.returns
returns g c =
    let page = c.args.page in
    let n = question_node c.args.question in
    let asks = of_statement n c.args.question.statement.statement in
    let own = same_forms c.forms-forms.result.now c.policy.result page.policy c.forms-forms.ensures c.policy.ensures in
    let hiding = guards_found page.policy n _ c.place.result _ c.requires asks (sym c.place.ensures) own c.guards_at.ensures.guards in
    let graying_out = guards_found page.policy n _ c.place-2.result _ c.requires asks (sym c.place-2.ensures) own c.guards_at-2.ensures.guards in
    reasons_there (world_of page) (question_view c.args.question) _ _ _ _ hiding graying_out c.locks_of.ensures c.of.ensures

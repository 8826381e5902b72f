use Rattle.std.proofs.Common.{◌≡◌, ◌∙◌, ℕ, List, ap, length, subst, sym}
use Rattle.std.specs.Prelude.{filter}
use Rattle.hii_bytes.proofs.WritingLemmas.{◌⨾◌}
use Rattle.ifr_opcodes.specs.Fields.{form_set_guid}
use Rattle.ifr_nodes.specs.Accepted.{IsAccepted}
use Rattle.ifr_nodes.specs.Nodes.{is_form, nodes_of}
use Rattle.ifr_scopes.specs.code.Lists.{form_set_node}
use Rattle.hii_questions.specs.Fields.{questions}
use Rattle.guard_policy.specs.code.Views.{bytes_of}
use Rattle.question_audit.proofs.AroundLemmas.{same_forms}
use Rattle.report_audit.specs.Heads.{form_set_op}
use Rattle.report_audit.proofs.HeadLemmas.{form_set_found}
use Rattle.report_audit.proofs.heads.put_form_set_counts.Goals as goal

pub forms_count-requires : goal.forms_count-requires
forms_count-requires g c =
    subst IsAccepted (sym (same_forms c.forms-forms.result.now c.policy.result c.args.page.policy c.forms-forms.ensures c.policy.ensures)) c.args.page.policy.accepted

pub returns : goal.returns
returns g c =
    let bytes = bytes_of c.args.page.policy in
    let ns = nodes_of bytes in
    let own = same_forms c.forms-forms.result.now c.policy.result c.args.page.policy c.forms-forms.ensures c.policy.ensures in
    let op = form_set_found _ bytes _ (form_set_node c.formset.result) _ own c.formset.ensures.1 c.op.ensures.bytes in
    let guid : c.guid.result.bytes.now ≡ form_set_guid (form_set_op ns) = c.guid.ensures ∙ ap form_set_guid op in
    let forms : c.forms_count.result ≡ length (filter is_form ns) = c.forms_count.ensures ∙ ap (λ (b : List ℕ). length (filter is_form (nodes_of b))) own in
    let asked : c.count.result ≡ length (questions ns) = c.count.ensures ∙ ap (λ (b : List ℕ). length (questions (nodes_of b))) c.questions.ensures.own in
    c.put.ensures ⨾ (rw guid at c.put_guid.ensures) ⨾ c.put-2.ensures ⨾ (rw forms at c.put_decimal.ensures) ⨾ c.put-3.ensures ⨾ (rw asked at c.put_decimal-2.ensures) ⨾ c.put-4.ensures

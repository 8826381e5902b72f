use Rattle.std.proofs.Common.{List, ℕ, codes, subst, sym}
use Rattle.hii_bytes.proofs.WritingLemmas.{◌⨾◌}
use Rattle.ifr_nodes.specs.code.Checked.{IsNodeOf}
use Rattle.ifr_scopes.specs.code.Lists.{form_node}
use Rattle.question_audit.proofs.AroundLemmas.{same_forms}
use Rattle.question_audit.proofs.BeginningLemmas.{at_error, begun_before, begun_behind}
use Rattle.report_audit.proofs.forms.put_section.Goals as goal

pub question_count-requires : goal.question_count-requires
question_count-requires g c =
    subst (λ (b : List ℕ). IsNodeOf b (form_node c.args.form)) (sym (same_forms c.forms.result.now c.policy.result c.args.page.policy c.forms.ensures c.policy.ensures)) c.requires.node

pub returns-clause-told : goal.returns-clause-told
returns-clause-told g c = c.put_section_head.ensures ⨾ (rw c.question_count.ensures at c.put_rows_head.ensures) ⨾ c.in_ok-put_rows.ensures.told ⨾ c.put.ensures

pub returns-in_err-put_rows-clause-begun : goal.returns-in_err-put_rows-clause-begun
returns-in_err-put_rows-clause-begun g c =
    at_error c.from_residual.result
    (begun_before (codes "</section>\n") (begun_behind (c.put_section_head.ensures ⨾ (rw c.question_count.ensures at c.put_rows_head.ensures)) c.in_err-put_rows.ensures.begun))

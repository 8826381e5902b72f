use Rattle.std.proofs.Common.{List, ℕ, subst, sym}
use Rattle.hii_bytes.proofs.WritingLemmas.{◌⨾◌}
use Rattle.ifr_nodes.specs.code.Checked.{IsNodeOf}
use Rattle.ifr_scopes.specs.code.Lists.{form_node}
use Rattle.question_audit.proofs.AroundLemmas.{same_forms}
use Rattle.report_audit.proofs.contents.put_form_item.Goals as goal

pub question_count-requires : goal.question_count-requires
question_count-requires g c =
    subst (λ (b : List ℕ). IsNodeOf b (form_node c.args.form)) (sym (same_forms c.forms.result.now c.policy.result c.args.page.policy c.forms.ensures c.policy.ensures)) c.requires.node

pub returns : goal.returns
returns g c =
    c.put.ensures ⨾ (rw c.place.ensures at c.put_link.ensures) ⨾ c.put_form_title.ensures ⨾ c.put-2.ensures ⨾ (rw c.question_count.ensures at c.put_decimal.ensures) ⨾ (rw c.to.ensures at c.put_mark.ensures)
    ⨾ c.put-3.ensures

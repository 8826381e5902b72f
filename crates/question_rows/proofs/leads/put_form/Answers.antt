use Rattle.std.proofs.Common.{ℕ, List, ap, ◌∙◌}
use Rattle.hii_bytes.proofs.WritingLemmas.{◌⨾◌}
use Rattle.ifr_nodes.specs.Nodes.{nodes_of}
use Rattle.ifr_nodes.specs.ReferenceFaults.{form_with}
use Rattle.condition_text.proofs.WriteLemmas.{written_as}
use Rattle.question_audit.specs.code.Pages.{audited}
use Rattle.question_audit.proofs.AroundLemmas.{same_forms}
use Rattle.question_rows.specs.Leads.{form_part}
use Rattle.question_rows.proofs.leads.put_form.Goals as goal

pub returns-in-Some : goal.returns-in-Some
returns-in-Some g c =
    let page = c.args.page in
    let own = same_forms c.forms.result.now c.policy.result page.policy c.forms.ensures c.policy.ensures in
    written_as (rw (c.from.ensures, c.place.ensures) at (c.put.ensures ⨾ c.put_link.ensures ⨾ c.put_form_title.ensures ⨾ c.put-in-Some.ensures ⨾ c.put_decimal.ensures ⨾ c.put-in-Some-2.ensures))
    (ap (form_part (audited page) c.args.id) (c.in-Some.ensures ∙ ap (λ (b : List ℕ). form_with (nodes_of b) c.args.id) own))

use Rattle.std.proofs.Common.{◌≡◌, ℕ, List, codes, ap, ◌∙◌}
use Rattle.hii_bytes.proofs.WritingLemmas.{◌⨾◌}
use Rattle.ifr_opcodes.specs.Fields.{question_id}
use Rattle.ifr_nodes.specs.Nodes.{nodes_of}
use Rattle.hii_questions.specs.code.Views.{question_node}
use Rattle.guard_policy.specs.code.Views.{bytes_of}
use Rattle.condition_text.proofs.WriteLemmas.{written_as}
use Rattle.question_audit.specs.code.Pages.{audited}
use Rattle.question_audit.proofs.AroundLemmas.{same_forms}
use Rattle.question_audit.specs.code.Naming.{naming}
use Rattle.question_audit.specs.declared.when.When.TheVariants.{AtCommands, AtOpening}
use Rattle.question_rows.specs.Dependences.{decided_items}
use Rattle.question_rows.proofs.RunLemmas.{listed_both}
use Rattle.question_rows.proofs.decided.put_asked_decides.Goals as goal

pub returns-clause-told : goal.returns-clause-told
returns-clause-told g c =
    let page = c.args.page in
    let a = audited page in
    let ns = nodes_of (bytes_of page.policy) in
    let id = question_id (question_node c.args.question).op in
    let own = same_forms c.forms.result.now c.policy.result page.policy c.forms.ensures c.policy.ensures in
    let flags : c.in_ok-flags.flags.items ≡ naming ns id = c.in_ok-flags.ensures ∙ ap (λ (b : List ℕ). naming (nodes_of b) c.id.result) own ∙ ap (naming ns) c.id.ensures in
    let first = c.put_decided-is_first.ensures.first id (c.deref.ensures.value ∙ flags) in
    let none = c.put_decided-is_none.ensures.first id (c.deref-2.ensures.value ∙ flags) in
    written_as (c.put_decided-is_first.ensures.text id (c.deref.ensures.value ∙ flags) ⨾ rw first at (c.put_decided-is_none.ensures.text id (c.deref-2.ensures.value ∙ flags)) ⨾ rw (none, first) at c.put_end.ensures)
    (listed_both (codes "<p class=\"small\">decides ") (codes ", ") (codes "</p>") (decided_items AtCommands a id) (decided_items AtOpening a id))

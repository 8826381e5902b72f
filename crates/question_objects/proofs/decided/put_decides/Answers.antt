use Rattle.std.proofs.Common.{◌≡◌, ℕ, List, ap, ◌∙◌}
use Rattle.hii_bytes.proofs.WritingLemmas.{◌⨾◌}
use Rattle.ifr_opcodes.specs.Fields.{question_id}
use Rattle.ifr_nodes.specs.Nodes.{nodes_of}
use Rattle.hii_questions.specs.code.Views.{question_node}
use Rattle.guard_policy.specs.code.Views.{bytes_of}
use Rattle.question_audit.proofs.AroundLemmas.{same_forms}
use Rattle.question_audit.specs.code.Naming.{naming}
use Rattle.question_objects.proofs.decided.put_decides.Goals as goal

pub returns-clause-told : goal.returns-clause-told
returns-clause-told g c =
    let ns = nodes_of (bytes_of c.args.page.policy) in
    let id = question_id (question_node c.args.question).op in
    let own = same_forms c.forms.result.now c.policy.result c.args.page.policy c.forms.ensures c.policy.ensures in
    let flags : c.in_ok-flags.flags.items ≡ naming ns id = c.in_ok-flags.ensures ∙ ap (λ (b : List ℕ). naming (nodes_of b) c.id.result) own ∙ ap (naming ns) c.id.ensures in
    c.put_decided.ensures id (c.deref.ensures.value ∙ flags) ⨾ c.put_decided-2.ensures id (c.deref-2.ensures.value ∙ flags)

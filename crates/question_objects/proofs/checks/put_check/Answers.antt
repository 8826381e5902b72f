use Rattle.std.proofs.Common.{codes, ap, ◌∙◌}
use Rattle.hii_bytes.proofs.WritingLemmas.{◌⨾◌}
use Rattle.ifr_opcodes.specs.Opcode.{number}
use Rattle.ifr_nodes.specs.NodeExpressions.{message}
use Rattle.ifr_scopes.specs.code.Parts.{condition_node}
use Rattle.condition_text.proofs.WriteLemmas.{written_as}
use Rattle.question_audit.specs.code.Pages.{audited}
use Rattle.question_objects.specs.Conditions.{named_condition}
use Rattle.question_objects.specs.Members.{shown_member}
use Rattle.question_objects.proofs.WordLemmas.{words_over}
use Rattle.question_objects.proofs.checks.put_check.Goals as goal

pub returns : goal.returns
returns g c =
    let n = condition_node c.args.check in
    let a = audited c.args.page in
    let head = c.put_named.ensures n c.place.ensures (c.code_of.ensures ∙ ap number c.op.ensures.bytes) (words_over c.of-text.ensures c.condition.ensures) in
    let named = written_as head (ap (named_condition c.args.package_place n) c.state_of.ensures) in
    let told = written_as c.put_text.ensures (ap (shown_member (codes "text")) (c.text.ensures ∙ ap a.texts (c.message.ensures ∙ ap message c.op-2.ensures.bytes))) in
    c.put_before_item.ensures ⨾ (c.put.ensures ⨾ (named ⨾ told) ⨾ c.put-2.ensures)

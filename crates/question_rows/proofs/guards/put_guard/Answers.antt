use Rattle.std.proofs.Common.{◌≡◌, ap, ◌∙◌}
use Rattle.hii_bytes.proofs.WritingLemmas.{◌⨾◌}
use Rattle.ifr_opcodes.specs.Opcode.{number}
use Rattle.ifr_scopes.specs.code.Lists.{guard_node}
use Rattle.audit_text.specs.Words.{opcode_name}
use Rattle.question_rows.proofs.guards.put_guard.Goals as goal

pub returns-clause-told : goal.returns-clause-told
returns-clause-told g c =
    let n = guard_node c.args.guard in
    let words = rw c.condition.ensures at (c.deref.ensures.value ∙ c.in_ok-words.ensures) in
    let class = c.guard_class.ensures n.op c.code-code.ensures in
    let name : c.opcode_name.result.now ≡ opcode_name (number n.op) = c.opcode_name.ensures ∙ ap opcode_name c.code-code.ensures in
    rw (class, name, words, c.guard_state_by-state.ensures.state) at
    (c.put.ensures ⨾ (c.put-2.ensures ⨾ c.put-3.ensures ⨾ c.put-4.ensures ⨾ c.put-5.ensures ⨾ c.put-6.ensures ⨾ c.put_stated.ensures) ⨾ c.put-7.ensures)

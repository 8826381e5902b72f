use Rattle.std.proofs.Common.{◌≡◌, ℕ, List, ap, ◌∙◌}
use Rattle.hii_bytes.proofs.WritingLemmas.{◌⨾◌}
use Rattle.ifr_opcodes.specs.Opcode.{number}
use Rattle.hii_questions.specs.code.Views.{question_node}
use Rattle.audit_text.specs.Words.{opcode_name}
use Rattle.question_audit.proofs.opcode_facts.put_opcode_fact.Goals as goal

pub returns : goal.returns
returns g c =
    let name : c.opcode_name.result.now ≡ opcode_name (number (question_node c.args.question).op) = c.opcode_name.ensures ∙ ap (λ (op : List ℕ). opcode_name (number op)) c.op.ensures.bytes in
    rw (name, c.from-place.ensures, c.place.ensures, c.text.ensures) at
    (c.put_column.ensures ⨾ c.put.ensures ⨾ c.put-2.ensures ⨾ c.put_place.ensures ⨾ c.put-3.ensures ⨾ c.put_hexadecimal.ensures.text ⨾ c.put-4.ensures ⨾ c.put-5.ensures)

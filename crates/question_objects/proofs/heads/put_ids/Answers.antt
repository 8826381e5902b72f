use Rattle.std.proofs.Common.{◌≡◌, ℕ, List, ap, ◌∙◌}
use Rattle.hii_bytes.proofs.WritingLemmas.{◌⨾◌}
use Rattle.ifr_opcodes.specs.Opcode.{number}
use Rattle.hii_questions.specs.code.Views.{question_node}
use Rattle.audit_text.specs.Words.{opcode_name}
use Rattle.question_objects.proofs.heads.put_ids.Goals as goal

pub returns : goal.returns
returns g c =
    let n = question_node c.args.question in
    let name : c.opcode_name.result.now ≡ opcode_name (number n.op) = c.opcode_name.ensures ∙ ap (λ (op : List ℕ). opcode_name (number op)) c.op.ensures.bytes in
    rw (name, c.from.ensures, c.id.ensures) at (c.put_number.ensures ⨾ c.put_form_id.ensures ⨾ c.put_word.ensures ⨾ c.put_places.ensures n c.place.ensures)

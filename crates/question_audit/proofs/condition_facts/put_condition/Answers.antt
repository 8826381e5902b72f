use Rattle.std.proofs.Common.{◌≡◌, ap, ◌∙◌}
use Rattle.hii_bytes.proofs.WritingLemmas.{◌⨾◌}
use Rattle.ifr_opcodes.specs.Opcode.{number}
use Rattle.ifr_scopes.specs.code.AnyConditions.{any_condition_node}
use Rattle.audit_text.specs.Words.{opcode_name}
use Rattle.question_audit.proofs.condition_facts.put_condition.Goals as goal

pub returns : goal.returns
returns g c =
    let name : c.opcode_name.result.now ≡ opcode_name (number (any_condition_node c.args.condition).op) = c.opcode_name.ensures ∙ ap opcode_name c.requires.code in
    rw (name, c.from-place.ensures, c.place.ensures, c.of-text.ensures, c.condition.ensures) at
    (c.put_column.ensures ⨾ c.put.ensures ⨾ c.put-2.ensures ⨾ c.put_place.ensures ⨾ c.put-3.ensures ⨾ c.put_hexadecimal.ensures.text ⨾ c.put-4.ensures ⨾ c.put-5.ensures ⨾ c.put-6.ensures ⨾ c.put-7.ensures
    ⨾ c.put-8.ensures)

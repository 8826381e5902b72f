use Rattle.hii_bytes.proofs.WritingLemmas.{◌⨾◌}
use Rattle.question_audit.proofs.opcode_facts.put_opcode_facts.Goals as goal

pub returns : goal.returns
returns g c =
    rw (c.text.ensures, c.help.ensures, c.op.ensures.bytes, c.statement-statement.ensures, c.requires.names, c.field.ensures.found) at
    (c.put_prompt_line.ensures ⨾ c.put_help.ensures ⨾ c.put_form_fact.ensures ⨾ c.put_opcode_fact.ensures ⨾ c.put_field_fact.ensures)

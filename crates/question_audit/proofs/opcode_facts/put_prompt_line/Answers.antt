use Rattle.hii_bytes.proofs.WritingLemmas.{◌⨾◌}
use Rattle.question_audit.proofs.opcode_facts.put_prompt_line.Goals as goal

pub returns : goal.returns
returns g c =
    rw (c.id.ensures, c.chars.ensures, c.text.ensures, c.prompt.ensures, c.op.ensures.bytes, c.statement.ensures) at
    (c.put.ensures ⨾ c.put_id.ensures ⨾ c.put-2.ensures ⨾ c.put_safe_shown.ensures ⨾ c.put-3.ensures)

use Rattle.hii_bytes.proofs.WritingLemmas.{◌⨾◌}
use Rattle.question_audit.proofs.decides_facts.put_decided.Goals as goal

pub returns : goal.returns
returns g c =
    rw (c.from.ensures, c.behind.ensures, c.id.ensures, c.chars.ensures, c.text.ensures, c.prompt.ensures, c.op.ensures.bytes, c.statement.ensures) at
    (c.put_column.ensures ⨾ (c.put_decimal.ensures ⨾ c.put.ensures ⨾ c.put_safe_shown.ensures ⨾ c.put-2.ensures) ⨾ c.put-3.ensures)

use Rattle.hii_bytes.proofs.WritingLemmas.{◌⨾◌}
use Rattle.image_audit.proofs.difference.put_value_line.Goals as goal

pub returns : goal.returns
returns g c =
    rw (c.from.ensures, c.id.ensures, c.chars.ensures, c.text.ensures, c.prompt.ensures, c.op.ensures.bytes, c.statement.ensures) at
    (c.put.ensures ⨾ c.put_decimal.ensures ⨾ c.put-2.ensures ⨾ c.put_safe_shown.ensures ⨾ c.put-3.ensures ⨾ c.put_told_value.ensures ⨾ c.put-4.ensures ⨾ c.put_told_value-2.ensures
    ⨾ c.put-5.ensures)

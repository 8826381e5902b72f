use Rattle.hii_bytes.proofs.WritingLemmas.{◌⨾◌}
use Rattle.script_audit.proofs.changes.put_change.Goals as goal

pub returns : goal.returns
returns g c =
    rw (c.id.ensures, c.chars.ensures, c.text-prompt.ensures, c.prompt.ensures, c.op.ensures.bytes, c.statement.ensures) at
    (c.put_id.ensures ⨾ c.put_spelled.ensures ⨾ c.put_as.ensures ⨾ c.put_value_over.ensures ⨾ c.put_as-2.ensures ⨾ c.put_value_over-2.ensures ⨾ c.put_as-3.ensures)

use Rattle.hii_bytes.proofs.WritingLemmas.{◌⨾◌}
use Rattle.question_audit.proofs.question_line.put_shown_value.Goals as goal

pub returns : goal.returns
returns g c =
    rw (c.chars.ensures, c.text.ensures, c.prompt.ensures, c.op.ensures.bytes, c.statement.ensures) at
    (c.put_safe_shown.ensures ⨾ c.put.ensures ⨾ c.put_told_value.ensures ⨾ c.put-2.ensures)

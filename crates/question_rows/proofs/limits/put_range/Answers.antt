use Rattle.hii_bytes.proofs.WritingLemmas.{◌⨾◌}
use Rattle.question_rows.proofs.limits.put_range.Goals as goal

pub returns : goal.returns
returns g c =
    rw (c.minimum.ensures, c.maximum.ensures) at
    (c.put.ensures ⨾ (c.put_shown_number.ensures ⨾ c.put-2.ensures ⨾ c.put_shown_number-2.ensures ⨾ c.put_step.ensures) ⨾ c.put-3.ensures)

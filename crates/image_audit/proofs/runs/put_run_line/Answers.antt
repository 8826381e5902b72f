use Rattle.hii_bytes.proofs.WritingLemmas.{◌⨾◌}
use Rattle.image_audit.proofs.runs.put_run_line.Goals as goal

pub returns : goal.returns
returns g c =
    rw c.differing-width.ensures.count at
    (c.put.ensures ⨾ c.put_range.ensures ⨾ c.put-2.ensures ⨾ c.put_digits.ensures ⨾ c.put-3.ensures ⨾ c.put_digits-2.ensures ⨾ c.put-4.ensures)

use Rattle.hii_bytes.proofs.WritingLemmas.{◌⨾◌}
use Rattle.check_audit.proofs.warning_lines.put_overlap.Goals as goal

pub returns : goal.returns
returns g c = c.put.ensures ⨾ (rw c.from.ensures at c.put_decimal.ensures) ⨾ c.put-2.ensures ⨾ (rw c.from-2.ensures at c.put_decimal-2.ensures)

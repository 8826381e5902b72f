use Rattle.hii_bytes.proofs.WritingLemmas.{◌⨾◌}
use Rattle.check_audit.proofs.warning_lines.put_default.Goals as goal

pub returns : goal.returns
returns g c = (rw c.from.ensures at c.put_decimal.ensures) ⨾ c.put.ensures ⨾ (rw c.from-2.ensures at c.put_decimal-2.ensures) ⨾ c.put-2.ensures ⨾ (rw c.denial_word.ensures at c.put-3.ensures)

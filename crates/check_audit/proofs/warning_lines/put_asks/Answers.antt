use Rattle.hii_bytes.proofs.WritingLemmas.{◌⨾◌}
use Rattle.check_audit.proofs.warning_lines.put_asks.Goals as goal

pub returns : goal.returns
returns g c = (rw c.from.ensures at c.put_decimal.ensures) ⨾ (rw c.lack_of.ensures at c.put.ensures)

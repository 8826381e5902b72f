use Rattle.hii_bytes.proofs.WritingLemmas.{◌⨾◌}
use Rattle.check_audit.proofs.warning_lines.put_textless.Goals as goal

pub returns : goal.returns
returns g c = (rw c.from.ensures at c.put_decimal.ensures) ⨾ c.put.ensures

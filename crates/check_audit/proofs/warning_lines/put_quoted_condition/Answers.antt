use Rattle.hii_bytes.proofs.WritingLemmas.{◌⨾◌}
use Rattle.check_audit.proofs.warning_lines.put_quoted_condition.Goals as goal

pub returns : goal.returns
returns g c = c.put.ensures ⨾ (rw c.of.ensures at c.put-2.ensures) ⨾ c.put-3.ensures

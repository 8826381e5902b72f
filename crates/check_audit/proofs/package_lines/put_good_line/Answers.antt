use Rattle.hii_bytes.proofs.WritingLemmas.{◌⨾◌}
use Rattle.check_audit.proofs.package_lines.put_good_line.Goals as goal

pub returns : goal.returns
returns g c = c.put.ensures ⨾ c.put_decimal.ensures ⨾ c.put-2.ensures ⨾ c.put_decimal-2.ensures ⨾ c.put-3.ensures ⨾ c.put_decimal-3.ensures ⨾ c.put-4.ensures

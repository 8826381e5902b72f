use Rattle.hii_bytes.proofs.WritingLemmas.{◌⨾◌}
use Rattle.check_audit.proofs.package_lines.put_head_line.Goals as goal

pub returns : goal.returns
returns g c = c.put.ensures ⨾ c.put_decimal.ensures ⨾ c.put-2.ensures ⨾ c.put_form_set.ensures ⨾ c.put-3.ensures

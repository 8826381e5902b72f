use Rattle.hii_bytes.proofs.WritingLemmas.{◌⨾◌}
use Rattle.check_audit.proofs.package_lines.put_good_object.Goals as goal

pub returns : goal.returns
returns g c = c.put_kind.ensures ⨾ (c.put_number.ensures ⨾ c.put_number-2.ensures ⨾ c.put_number-3.ensures) ⨾ c.end_object.ensures

use Rattle.hii_bytes.proofs.WritingLemmas.{◌⨾◌}
use Rattle.check_audit.proofs.warning_lines.put_lack_members.Goals as goal

pub returns : goal.returns
returns g c = c.put_string.ensures ⨾ c.put_number.ensures ⨾ c.put_number-2.ensures

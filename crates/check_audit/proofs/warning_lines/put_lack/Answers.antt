use Rattle.hii_bytes.proofs.WritingLemmas.{◌⨾◌}
use Rattle.check_audit.proofs.warning_lines.put_lack.Goals as goal

pub returns : goal.returns
returns g c = c.put_language.ensures ⨾ c.put.ensures ⨾ c.put_decimal.ensures ⨾ c.put-2.ensures ⨾ c.put_decimal-2.ensures ⨾ c.put-3.ensures ⨾ c.put_language-2.ensures

use Rattle.hii_bytes.proofs.WritingLemmas.{◌⨾◌}
use Rattle.dump_audit.proofs.lines.put_no_list_line.Goals as goal

pub returns : goal.returns
returns g c = c.put.ensures ⨾ c.put_decimal.ensures ⨾ c.put-2.ensures

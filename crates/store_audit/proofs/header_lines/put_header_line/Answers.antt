use Rattle.hii_bytes.proofs.WritingLemmas.{◌⨾◌}
use Rattle.store_audit.proofs.header_lines.put_header_line.Goals as goal

pub returns : goal.returns
returns g c = c.put_header.ensures ⨾ c.put.ensures

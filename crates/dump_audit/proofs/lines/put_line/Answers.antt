use Rattle.hii_bytes.proofs.WritingLemmas.{◌⨾◌}
use Rattle.dump_audit.proofs.lines.put_line.Goals as goal

pub returns : goal.returns
returns g c = λ finding is. c.put_head.ensures ⨾ c.put_finding.ensures finding is ⨾ c.put.ensures

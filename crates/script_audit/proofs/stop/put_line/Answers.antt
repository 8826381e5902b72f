use Rattle.hii_bytes.proofs.WritingLemmas.{◌⨾◌}
use Rattle.script_audit.proofs.stop.put_line.Goals as goal

pub returns : goal.returns
returns g c = c.put_numbered_front.ensures ⨾ c.put_first.ensures ⨾ c.put_back.ensures

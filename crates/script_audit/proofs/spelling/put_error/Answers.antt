use Rattle.hii_bytes.proofs.WritingLemmas.{◌⨾◌}
use Rattle.script_audit.proofs.spelling.put_error.Goals as goal

pub returns : goal.returns
returns g c = c.put_front.ensures ⨾ c.put.ensures ⨾ c.put_back.ensures

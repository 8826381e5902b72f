use Rattle.hii_bytes.proofs.WritingLemmas.{◌⨾◌}
use Rattle.script_audit.proofs.unsubmitted.put_unsubmitted.Goals as goal

pub returns : goal.returns
returns g c = c.put_front.ensures ⨾ c.put.ensures ⨾ c.put_ids.ensures ⨾ c.put_back.ensures

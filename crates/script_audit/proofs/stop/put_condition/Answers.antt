use Rattle.hii_bytes.proofs.WritingLemmas.{◌⨾◌}
use Rattle.script_audit.proofs.stop.put_condition.Goals as goal

pub returns : goal.returns
returns g c = c.put_front.ensures ⨾ c.put_forbidding.ensures ⨾ c.put_back.ensures

use Rattle.hii_bytes.proofs.WritingLemmas.{◌⨾◌}
use Rattle.report_audit.proofs.heads.put_policy.Goals as goal

pub returns : goal.returns
returns g c = c.put.ensures ⨾ c.put-2.ensures ⨾ c.put-3.ensures

use Rattle.hii_bytes.proofs.WritingLemmas.{◌⨾◌}
use Rattle.dump_audit.proofs.contents.put_guid_value.Goals as goal

pub returns : goal.returns
returns g c = c.put.ensures ⨾ c.put_guid.ensures ⨾ c.put-2.ensures

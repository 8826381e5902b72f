use Rattle.hii_bytes.proofs.WritingLemmas.{◌⨾◌}
use Rattle.store_audit.proofs.store_lines.put_object.Goals as goal

pub returns : goal.returns
returns g c = c.put_kind.ensures ⨾ c.put_members.ensures ⨾ c.end_object.ensures

use Rattle.hii_bytes.proofs.WritingLemmas.{◌⨾◌}
use Rattle.store_audit.proofs.fillings.put_filling_object.Goals as goal

pub returns : goal.returns
returns g c = c.put_kind.ensures ⨾ c.put_filling_members.ensures ⨾ c.end_object.ensures

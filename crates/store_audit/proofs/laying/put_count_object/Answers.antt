use Rattle.hii_bytes.proofs.WritingLemmas.{◌⨾◌}
use Rattle.store_audit.proofs.laying.put_count_object.Goals as goal

pub returns : goal.returns
returns g c = λ laid same. rw same (c.put_kind.ensures ⨾ (c.put_number.ensures ⨾ (rw c.from.ensures at c.put_number-2.ensures)) ⨾ c.end_object.ensures)

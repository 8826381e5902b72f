use Rattle.hii_bytes.proofs.WritingLemmas.{◌⨾◌}
use Rattle.store_audit.proofs.laying.put_count_line.Goals as goal

pub returns : goal.returns
returns g c = λ laid same. rw same (c.put.ensures ⨾ c.put_decimal.ensures ⨾ c.put-2.ensures ⨾ (rw c.from.ensures at c.put_decimal-2.ensures) ⨾ c.put-3.ensures)

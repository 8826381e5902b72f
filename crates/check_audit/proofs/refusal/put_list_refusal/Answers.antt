use Rattle.hii_bytes.proofs.WritingLemmas.{◌⨾◌}
use Rattle.check_audit.proofs.refusal.put_list_refusal.Goals as goal

pub returns : goal.returns
returns g c = c.put_fault.ensures ⨾ c.put_list_byte.ensures ⨾ (rw c.mostly_of.ensures at c.put_mostly.ensures)

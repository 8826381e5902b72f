use Rattle.hii_bytes.proofs.WritingLemmas.{◌⨾◌}
use Rattle.check_audit.proofs.refusal.put_fault_line.Goals as goal

pub returns : goal.returns
returns g c = c.put_fault.ensures ⨾ c.put.ensures

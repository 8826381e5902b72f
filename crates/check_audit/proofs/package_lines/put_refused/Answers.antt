use Rattle.hii_bytes.proofs.WritingLemmas.{◌⨾◌}
use Rattle.check_audit.proofs.package_lines.put_refused.Goals as goal

pub returns : goal.returns
returns g c = rw c.deref.ensures.value at (c.put_refusal.ensures ⨾ c.put_others.ensures)

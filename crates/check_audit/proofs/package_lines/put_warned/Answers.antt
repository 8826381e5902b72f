use Rattle.hii_bytes.proofs.WritingLemmas.{◌⨾◌}
use Rattle.check_audit.proofs.package_lines.put_warned.Goals as goal

pub returns : goal.returns
returns g c = c.put_good.ensures ⨾ (rw (c.deref.ensures.value, c.deref-2.ensures.value) at c.put_warnings.ensures)

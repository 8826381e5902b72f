use Rattle.hii_bytes.proofs.WritingLemmas.{◌⨾◌}
use Rattle.audit_text.proofs.columns.put_left.Goals as goal

pub returns : goal.returns
returns g c = rw c.saturating_sub.ensures at (c.put.ensures ⨾ c.put_spaces.ensures)

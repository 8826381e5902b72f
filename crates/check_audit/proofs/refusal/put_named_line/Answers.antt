use Rattle.hii_bytes.proofs.WritingLemmas.{◌⨾◌}
use Rattle.check_audit.proofs.refusal.put_named_line.Goals as goal

pub returns : goal.returns
returns g c = c.put_left.ensures ⨾ (rw c.from.ensures at c.put_decimal.ensures) ⨾ c.put.ensures ⨾ (rw (c.chars.ensures, c.shown.ensures) at c.put_safe_shown.ensures) ⨾ c.put-2.ensures

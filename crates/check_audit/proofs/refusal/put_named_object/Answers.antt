use Rattle.hii_bytes.proofs.WritingLemmas.{◌⨾◌}
use Rattle.check_audit.proofs.refusal.put_named_object.Goals as goal

pub returns : goal.returns
returns g c = c.put_kind.ensures ⨾ ((rw c.from.ensures at c.put_number.ensures) ⨾ (rw (c.chars.ensures, c.shown.ensures) at c.put_shown.ensures)) ⨾ c.end_object.ensures

use Rattle.hii_bytes.proofs.WritingLemmas.{◌⨾◌}
use Rattle.check_audit.proofs.refusal.put_also_object.Goals as goal

pub returns : goal.returns
returns g c =
    rw (c.from.ensures, c.number.ensures, c.as_bytes.ensures.value, c.name.ensures) at
    (c.put_kind.ensures ⨾ ((c.put_number.ensures ⨾ c.put_string.ensures) ⨾ c.put_number-2.ensures ⨾ c.put_number-3.ensures) ⨾ c.end_object.ensures)

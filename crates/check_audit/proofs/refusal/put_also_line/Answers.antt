use Rattle.hii_bytes.proofs.WritingLemmas.{◌⨾◌}
use Rattle.check_audit.proofs.refusal.put_also_line.Goals as goal

pub returns : goal.returns
returns g c =
    rw (c.from.ensures, c.number.ensures, c.as_bytes.ensures.value, c.name.ensures) at
    (c.put_left.ensures ⨾ c.put_decimal.ensures ⨾ c.put.ensures ⨾ c.put-2.ensures ⨾ c.put-3.ensures ⨾ c.put_place.ensures ⨾ c.put-4.ensures ⨾ c.put_hexadecimal.ensures.text ⨾ c.put-5.ensures)

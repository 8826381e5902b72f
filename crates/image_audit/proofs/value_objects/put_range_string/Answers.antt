use Rattle.hii_bytes.proofs.WritingLemmas.{◌⨾◌}
use Rattle.image_audit.proofs.value_objects.put_range_string.Goals as goal

pub returns : goal.returns
returns g c = rw (c.name.ensures, c.from.ensures) at (c.put.ensures ⨾ (c.put_escaped_name.ensures ⨾ c.put-2.ensures ⨾ c.put_hexadecimal.ensures.text ⨾ c.put-3.ensures ⨾ c.put_decimal.ensures ⨾ c.put-4.ensures) ⨾ c.put-5.ensures)

use Rattle.hii_bytes.proofs.WritingLemmas.{◌⨾◌}
use Rattle.image_audit.proofs.range.put_range.Goals as goal

pub returns : goal.returns
returns g c =
    rw c.name.ensures at
    (c.put_ascii_name.ensures ⨾ c.put.ensures ⨾ c.put_hexadecimal.ensures.text ⨾ c.put-2.ensures ⨾ c.put_decimal.ensures ⨾ c.put-3.ensures)

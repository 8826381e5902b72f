use Rattle.hii_bytes.proofs.WritingLemmas.{◌⨾◌}
use Rattle.image_audit.proofs.export.put_store_line.Goals as goal

pub returns : goal.returns
returns g c =
    rw (c.from.ensures, c.name_of.ensures) at
    (c.put.ensures ⨾ c.put_decimal.ensures ⨾ c.put-2.ensures ⨾ c.put_ascii_name.ensures ⨾ c.put-3.ensures ⨾ c.put_decimal-2.ensures ⨾ c.put-4.ensures)

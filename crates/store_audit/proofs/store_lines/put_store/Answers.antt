use Rattle.hii_bytes.proofs.WritingLemmas.{◌⨾◌}
use Rattle.store_audit.proofs.store_lines.put_store.Goals as goal

pub returns : goal.returns
returns g c =
    rw (c.from.ensures, c.id.ensures, c.store_opcode_name.ensures, c.size.ensures, c.store_attributes.ensures, c.guid.ensures, c.name.ensures)
    at (c.put_decimal_right.ensures ⨾ c.put.ensures ⨾ c.put_left.ensures ⨾ c.put-2.ensures ⨾ c.put_size.ensures ⨾ c.put-3.ensures ⨾ c.put_left-2.ensures
    ⨾ c.put-4.ensures ⨾ c.put_guid.ensures ⨾ c.put-5.ensures ⨾ c.put_ascii_name.ensures ⨾ c.put-6.ensures)

use Rattle.hii_bytes.proofs.WritingLemmas.{◌⨾◌}
use Rattle.store_audit.proofs.store_lines.put_members.Goals as goal

pub returns : goal.returns
returns g c =
    rw (c.from.ensures, c.id.ensures, c.store_opcode_name.ensures, c.from-2.ensures, c.place.ensures, c.size.ensures, c.store_attributes.ensures, c.guid.ensures, c.name.ensures)
    at (c.put_number.ensures ⨾ c.put_word.ensures ⨾ c.put_number-2.ensures ⨾ c.put_size_member.ensures ⨾ c.put_attributes_member.ensures ⨾ c.put_guid_member.ensures ⨾ c.put_string.ensures)

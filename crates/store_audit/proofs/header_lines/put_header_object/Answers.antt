use Rattle.hii_bytes.proofs.WritingLemmas.{◌⨾◌}
use Rattle.store_audit.proofs.header_lines.put_header_object.Goals as goal

pub returns : goal.returns
returns g c =
    rw (c.from.ensures, c.id.ensures) at (c.put_kind.ensures ⨾ (c.put_number.ensures ⨾ (c.put_member.ensures ⨾ (c.put.ensures ⨾ c.put_header.ensures ⨾ c.put-2.ensures))) ⨾ c.end_object.ensures)

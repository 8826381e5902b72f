use Rattle.hii_bytes.proofs.WritingLemmas.{◌⨾◌}
use Rattle.opcode_audit.proofs.line.put_object.Goals as goal

pub returns : goal.returns
returns g c =
    c.put_kind.ensures ⨾ (c.put_place_members.ensures ⨾ c.put_name_member.ensures ⨾ c.put_fields_member.ensures ⨾ (c.put_member.ensures ⨾ c.put_quoted_bytes.ensures)) ⨾ c.end_object.ensures

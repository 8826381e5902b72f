use Rattle.hii_bytes.proofs.WritingLemmas.{◌⨾◌}
use Rattle.check_audit.proofs.refusal.put_opcode_object.Goals as goal

pub returns : goal.returns
returns g c =
    c.put_kind.ensures ⨾ ((c.put_member.ensures ⨾ (c.put.ensures ⨾ c.put_name.ensures ⨾ c.put-2.ensures)) ⨾ (rw c.from.ensures at c.put_number.ensures) ⨾ (c.put_member-2.ensures ⨾ c.put_quoted_bytes.ensures)) ⨾ c.end_object.ensures

use Rattle.hii_bytes.proofs.WritingLemmas.{◌⨾◌}
use Rattle.audit_json.proofs.objects.put_fault_members.Goals as goal

pub returns : goal.returns
returns g c = rw (c.from.ensures, c.number.ensures, c.as_bytes.ensures.value, c.name.ensures) at ((c.put_first_member.ensures ⨾ c.put_decimal.ensures) ⨾ c.put_string.ensures ⨾ c.put_number.ensures)

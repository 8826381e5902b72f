use Rattle.hii_bytes.proofs.WritingLemmas.{◌⨾◌}
use Rattle.audit_json.proofs.objects.put_fault_member.Goals as goal

pub returns : goal.returns
returns g c = c.put_member.ensures ⨾ (c.put.ensures ⨾ c.put_fault_members.ensures ⨾ c.put-2.ensures)

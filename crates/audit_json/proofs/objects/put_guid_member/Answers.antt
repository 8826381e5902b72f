use Rattle.hii_bytes.proofs.WritingLemmas.{◌⨾◌}
use Rattle.audit_json.proofs.objects.put_guid_member.Goals as goal

pub returns : goal.returns
returns g c = c.put_member.ensures ⨾ (c.put.ensures ⨾ c.put_guid.ensures ⨾ c.put-2.ensures)

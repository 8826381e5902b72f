use Rattle.hii_bytes.proofs.WritingLemmas.{◌⨾◌}
use Rattle.audit_json.proofs.objects.put_first_member.Goals as goal

pub returns : goal.returns
returns g c = c.put.ensures ⨾ c.put-2.ensures ⨾ c.put-3.ensures

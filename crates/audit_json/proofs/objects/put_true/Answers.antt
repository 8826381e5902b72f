use Rattle.hii_bytes.proofs.WritingLemmas.{◌⨾◌}
use Rattle.audit_json.proofs.objects.put_true.Goals as goal

pub returns : goal.returns
returns g c = c.put_member.ensures ⨾ c.put.ensures

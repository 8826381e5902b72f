use Rattle.hii_bytes.proofs.WritingLemmas.{◌⨾◌}
use Rattle.audit_json.proofs.objects.put_refused_at.Goals as goal

pub returns : goal.returns
returns g c = c.put_kind.ensures ⨾ (c.put_cause.ensures ⨾ c.put_number.ensures) ⨾ c.end_object.ensures

use Rattle.hii_bytes.proofs.WritingLemmas.{◌⨾◌}
use Rattle.audit_json.proofs.objects.put_error.Goals as goal

pub returns : goal.returns
returns g c = c.put_kind.ensures ⨾ c.put_string.ensures ⨾ c.end_object.ensures

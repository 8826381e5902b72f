use Rattle.hii_bytes.proofs.WritingLemmas.{◌⨾◌}
use Rattle.audit_json.proofs.objects.put_cause.Goals as goal

pub returns : goal.returns
returns g c = rw (c.from.ensures, c.number.ensures, c.as_bytes.ensures.value, c.name.ensures) at (c.put_number.ensures ⨾ c.put_string.ensures)

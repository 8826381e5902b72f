use Rattle.hii_bytes.proofs.WritingLemmas.{◌⨾◌}
use Rattle.audit_json.proofs.strings.put_unit_escape.Goals as goal

pub returns : goal.returns
returns g c = c.put.ensures ⨾ c.put_hex.ensures ⨾ c.put_hex-2.ensures

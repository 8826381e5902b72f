use Rattle.hii_bytes.proofs.WritingLemmas.{◌⨾◌}
use Rattle.audit_json.proofs.strings.put_json_str.Goals as goal

pub returns : goal.returns
returns g c = c.put.ensures ⨾ c.put_escaped_str.ensures ⨾ c.put-2.ensures

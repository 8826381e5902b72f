use Rattle.hii_bytes.proofs.WritingLemmas.{◌⨾◌}
use Rattle.image_audit.proofs.value_objects.put_shown_string.Goals as goal

pub returns : goal.returns
returns g c = c.put_member.ensures ⨾ c.put_json_value.ensures

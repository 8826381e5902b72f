use Rattle.hii_bytes.proofs.WritingLemmas.{◌⨾◌}
use Rattle.image_audit.proofs.value_objects.put_values_members.Goals as goal

pub returns : goal.returns
returns g c = c.put_value_of.ensures ⨾ c.put_value_of-2.ensures ⨾ c.put_shown_string.ensures ⨾ c.put_shown_string-2.ensures

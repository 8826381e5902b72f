use Rattle.hii_bytes.proofs.WritingLemmas.{◌⨾◌}
use Rattle.image_audit.proofs.value_objects.put_range_member.Goals as goal

pub returns-in-Some : goal.returns-in-Some
returns-in-Some g c = rw c.in-Some.is (c.put_member.ensures ⨾ c.put_range_string.ensures)

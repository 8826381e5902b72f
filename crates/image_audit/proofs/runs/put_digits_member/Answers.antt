use Rattle.hii_bytes.proofs.WritingLemmas.{◌⨾◌}
use Rattle.image_audit.proofs.runs.put_digits_member.Goals as goal

pub returns : goal.returns
returns g c = c.put_member.ensures ⨾ (c.put.ensures ⨾ (c.put_digits.ensures ⨾ c.put-2.ensures))

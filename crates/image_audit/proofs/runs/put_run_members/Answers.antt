use Rattle.hii_bytes.proofs.WritingLemmas.{◌⨾◌}
use Rattle.image_audit.proofs.runs.put_run_members.Goals as goal

pub returns : goal.returns
returns g c = rw (c.from.ensures, c.name.ensures, c.differing-width.ensures.count) at (c.put_number.ensures ⨾ c.put_string.ensures ⨾ c.put_number-2.ensures ⨾ c.put_digits_member.ensures ⨾ c.put_digits_member-2.ensures)

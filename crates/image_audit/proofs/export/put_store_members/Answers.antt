use Rattle.hii_bytes.proofs.WritingLemmas.{◌⨾◌}
use Rattle.image_audit.proofs.export.put_store_members.Goals as goal

pub returns : goal.returns
returns g c = rw (c.from.ensures, c.name_of.ensures) at (c.put_number.ensures ⨾ c.put_string.ensures ⨾ c.put_number-2.ensures)

use Rattle.hii_bytes.proofs.WritingLemmas.{◌⨾◌}
use Rattle.store_audit.proofs.fillings.put_filling_members.Goals as goal

pub returns : goal.returns
returns g c = rw (c.from.ensures, c.id.ensures, c.name.ensures, c.given.ensures) at (c.put_number.ensures ⨾ c.put_string.ensures ⨾ c.put_number-2.ensures ⨾ c.put_source_members.ensures)

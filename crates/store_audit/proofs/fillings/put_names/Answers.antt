use Rattle.hii_bytes.proofs.WritingLemmas.{◌⨾◌}
use Rattle.store_audit.proofs.fillings.put_names.Goals as goal

pub returns : goal.returns
returns g c = rw (c.from.ensures, c.id.ensures, c.name.ensures) at (c.put_decimal.ensures ⨾ c.put.ensures ⨾ c.put_ascii_name.ensures)

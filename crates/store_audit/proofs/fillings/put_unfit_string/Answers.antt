use Rattle.hii_bytes.proofs.WritingLemmas.{◌⨾◌}
use Rattle.store_audit.proofs.fillings.put_unfit_string.Goals as goal

pub returns : goal.returns
returns g c = rw (c.from.ensures, c.id.ensures, c.name.ensures) at (c.put.ensures ⨾ c.put_decimal.ensures ⨾ c.put-2.ensures ⨾ c.put_escaped_name.ensures ⨾ c.put_reason.ensures ⨾ c.put-3.ensures)

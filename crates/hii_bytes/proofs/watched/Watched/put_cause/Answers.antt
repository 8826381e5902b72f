use Rattle.hii_bytes.proofs.WritingLemmas.{◌⨾◌}
use Rattle.hii_bytes.proofs.watched.Watched.put_cause.Goals as goal

pub returns : goal.returns
returns g c = rw (c.from.ensures, c.number.ensures, c.as_bytes.ensures.value, c.name.ensures) at (c.put.ensures ⨾ c.put_decimal.ensures ⨾ c.put-2.ensures ⨾ c.put-3.ensures)

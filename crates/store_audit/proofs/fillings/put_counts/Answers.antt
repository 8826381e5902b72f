use Rattle.hii_bytes.proofs.WritingLemmas.{◌⨾◌}
use Rattle.store_audit.proofs.fillings.put_counts.Goals as goal

pub returns : goal.returns
returns g c =
    rw (c.given.ensures, c.from.ensures, c.wanted.ensures)
    at (c.put.ensures ⨾ c.put_decimal.ensures ⨾ c.put-2.ensures ⨾ c.put_decimal-2.ensures ⨾ c.put-3.ensures)

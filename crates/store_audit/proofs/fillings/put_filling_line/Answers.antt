use Rattle.hii_bytes.proofs.WritingLemmas.{◌⨾◌}
use Rattle.store_audit.proofs.fillings.put_filling_line.Goals as goal

pub returns : goal.returns
returns g c =
    rw c.given.ensures
    at (c.put.ensures ⨾ c.put_names.ensures ⨾ c.put-2.ensures ⨾ c.put_decimal.ensures ⨾ c.put-3.ensures ⨾ c.put_source.ensures ⨾ c.put-4.ensures)

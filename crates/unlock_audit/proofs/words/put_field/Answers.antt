use Rattle.hii_bytes.proofs.WritingLemmas.{◌⨾◌}
use Rattle.unlock_audit.proofs.words.put_field.Goals as goal

pub returns : goal.returns
returns g c =
    rw (c.name.ensures, c.from.ensures) at (c.put_store.ensures ⨾ c.put.ensures ⨾ c.put_hexadecimal.ensures.text ⨾ c.put-2.ensures ⨾ c.put_decimal.ensures ⨾ c.put-3.ensures)

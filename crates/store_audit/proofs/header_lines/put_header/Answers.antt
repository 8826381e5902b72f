use Rattle.hii_bytes.proofs.WritingLemmas.{◌⨾◌, writes_nil}
use Rattle.store_audit.proofs.header_lines.put_header.Goals as goal

pub returns : goal.returns
returns g c =
    rw (c.bytes.ensures.same, c.guid.ensures, c.name.ensures) at
    (c.put.ensures ⨾ c.put_digits.ensures ⨾ c.put-2.ensures ⨾ c.put_characters.ensures ⨾ c.put-3.ensures ⨾ c.put_digits-2.ensures ⨾ writes_nil _)

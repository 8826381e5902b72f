use Rattle.hii_bytes.proofs.WritingLemmas.{◌⨾◌}
use Rattle.hii_varstore.proofs.image.put_store.Goals as goal

pub returns : goal.returns
returns g c =
    rw (c.bytes_of.ensures, c.bytes_of-2.ensures, c.id.ensures, c.bytes-bytes.ensures.value) at (c.put.ensures ⨾ c.put-2.ensures ⨾ c.put-3.ensures)

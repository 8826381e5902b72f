use Rattle.hii_bytes.proofs.WritingLemmas.{◌⨾◌}
use Rattle.hii_bytes.proofs.watched.Watched.put_place.Goals as goal

pub returns : goal.returns
returns g c = c.put_hex.ensures ⨾ c.put_hex-2.ensures ⨾ c.put_hex-3.ensures ⨾ c.put_hex-4.ensures

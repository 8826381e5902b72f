use Rattle.hii_bytes.proofs.WritingLemmas.{◌⨾◌}
use Rattle.hii_bytes.proofs.watched.Watched.put_fault.Goals as goal

pub returns : goal.returns
returns g c = c.put_cause.ensures ⨾ c.put.ensures ⨾ c.put_place.ensures

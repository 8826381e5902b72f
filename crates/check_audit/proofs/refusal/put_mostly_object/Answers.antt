use Rattle.hii_bytes.proofs.WritingLemmas.{◌⨾◌}
use Rattle.check_audit.proofs.refusal.put_mostly_object.Goals as goal

pub returns : goal.returns
returns g c = c.put_kind.ensures ⨾ c.put_word.ensures ⨾ c.end_object.ensures

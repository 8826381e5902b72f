use Rattle.hii_bytes.proofs.WritingLemmas.{◌⨾◌}
use Rattle.script_audit.proofs.sentences.put_no_number.Goals as goal

pub returns : goal.returns
returns g c = c.put.ensures ⨾ c.put_bytes.ensures

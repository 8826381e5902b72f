use Rattle.hii_bytes.proofs.WritingLemmas.{◌⨾◌}
use Rattle.question_audit.proofs.facts.put_column.Goals as goal

pub returns : goal.returns
returns g c = c.put_left.ensures ⨾ c.put.ensures

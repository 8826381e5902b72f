use Rattle.hii_bytes.proofs.WritingLemmas.{◌⨾◌}
use Rattle.question_audit.proofs.reasons.put_further.Goals as goal

pub returns : goal.returns
returns g c = c.put_column.ensures ⨾ c.put_denial.ensures ⨾ c.put.ensures

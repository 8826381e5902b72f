use Rattle.hii_bytes.proofs.WritingLemmas.{◌⨾◌}
use Rattle.question_audit.proofs.limits_facts.put_line.Goals as goal

pub returns : goal.returns
returns g c = c.put_column.ensures ⨾ c.put.ensures ⨾ c.put-2.ensures

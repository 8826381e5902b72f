use Rattle.hii_bytes.proofs.WritingLemmas.{◌⨾◌}
use Rattle.question_audit.proofs.limits_facts.put_span.Goals as goal

pub returns : goal.returns
returns g c = c.put_column.ensures ⨾ (c.put_decimal.ensures ⨾ c.put.ensures ⨾ c.put_decimal-2.ensures ⨾ c.put-2.ensures) ⨾ c.put-3.ensures

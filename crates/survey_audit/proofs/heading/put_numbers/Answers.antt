use Rattle.hii_bytes.proofs.WritingLemmas.{◌⨾◌}
use Rattle.survey_audit.proofs.heading.put_numbers.Goals as goal

pub returns : goal.returns
returns g c = c.put_decimal.ensures ⨾ c.put.ensures ⨾ c.put_decimal-2.ensures ⨾ c.put-2.ensures

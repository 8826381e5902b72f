use Rattle.hii_bytes.proofs.WritingLemmas.{◌⨾◌}
use Rattle.survey_audit.proofs.heading.put_head.Goals as goal

pub returns : goal.returns
returns g c = c.put.ensures ⨾ c.put_numbers.ensures ⨾ c.put_form_set.ensures ⨾ c.put-2.ensures

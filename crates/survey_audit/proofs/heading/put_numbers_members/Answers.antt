use Rattle.hii_bytes.proofs.WritingLemmas.{◌⨾◌}
use Rattle.survey_audit.proofs.heading.put_numbers_members.Goals as goal

pub returns : goal.returns
returns g c = c.put_number.ensures ⨾ c.put_number-2.ensures

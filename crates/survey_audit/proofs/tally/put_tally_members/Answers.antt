use Rattle.hii_bytes.proofs.WritingLemmas.{◌⨾◌}
use Rattle.survey_audit.proofs.tally.put_tally_members.Goals as goal

pub returns : goal.returns
returns g c = c.put_number.ensures ⨾ c.put_number-2.ensures ⨾ c.put_number-3.ensures ⨾ c.put_number-4.ensures ⨾ c.put_number-5.ensures ⨾ c.put_number-6.ensures

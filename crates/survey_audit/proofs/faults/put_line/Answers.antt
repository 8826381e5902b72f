use Rattle.hii_bytes.proofs.WritingLemmas.{◌⨾◌}
use Rattle.survey_audit.proofs.faults.put_line.Goals as goal

pub returns : goal.returns
returns g c = c.put.ensures ⨾ c.put_numbers.ensures ⨾ c.put_guid_words.ensures ⨾ c.put-2.ensures ⨾ c.put_fault.ensures ⨾ c.put-3.ensures

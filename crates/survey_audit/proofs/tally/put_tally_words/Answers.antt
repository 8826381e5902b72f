use Rattle.hii_bytes.proofs.WritingLemmas.{◌⨾◌}
use Rattle.survey_audit.proofs.tally.put_tally_words.Goals as goal

pub returns : goal.returns
returns g c = c.put.ensures ⨾ c.put_decimal.ensures ⨾ c.put-2.ensures ⨾ c.put_decimal-2.ensures ⨾ c.put-3.ensures ⨾ c.put_decimal-3.ensures ⨾ c.put-4.ensures ⨾ c.put_decimal-4.ensures ⨾ c.put-5.ensures ⨾ c.put_decimal-5.ensures ⨾ c.put-6.ensures ⨾ c.put_decimal-6.ensures

use Rattle.hii_bytes.proofs.WritingLemmas.{◌⨾◌}
use Rattle.survey_audit.proofs.counts.put_line.Goals as goal

pub returns : goal.returns
returns g c = c.put_head.ensures ⨾ c.put_words.ensures ⨾ c.put.ensures

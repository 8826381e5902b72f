use Rattle.hii_bytes.proofs.WritingLemmas.{◌⨾◌}
use Rattle.question_audit.proofs.shown_values.put_json_value.Goals as goal

pub returns : goal.returns
returns g c = c.put.ensures ⨾ c.put_value.ensures ⨾ c.put-2.ensures

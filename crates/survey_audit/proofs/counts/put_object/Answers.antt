use Rattle.hii_bytes.proofs.WritingLemmas.{◌⨾◌}
use Rattle.survey_audit.proofs.counts.put_object.Goals as goal

pub returns : goal.returns
returns g c = c.put_kind.ensures ⨾ (c.put_head_members.ensures ⨾ c.put_members.ensures) ⨾ c.end_object.ensures

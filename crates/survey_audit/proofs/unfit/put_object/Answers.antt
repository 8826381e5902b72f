use Rattle.hii_bytes.proofs.WritingLemmas.{◌⨾◌}
use Rattle.survey_audit.proofs.unfit.put_object.Goals as goal

pub returns : goal.returns
returns g c = c.put_kind.ensures ⨾ (c.put_head_members.ensures ⨾ (c.put_member.ensures ⨾ c.put_unfit_string.ensures)) ⨾ c.end_object.ensures

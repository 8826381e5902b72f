use Rattle.hii_bytes.proofs.WritingLemmas.{◌⨾◌}
use Rattle.survey_audit.proofs.heading.put_head_members.Goals as goal

pub returns : goal.returns
returns g c = c.put_numbers_members.ensures ⨾ c.put_form_set_members.ensures

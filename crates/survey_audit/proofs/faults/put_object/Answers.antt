use Rattle.hii_bytes.proofs.WritingLemmas.{◌⨾◌}
use Rattle.survey_audit.proofs.faults.put_object.Goals as goal

pub returns : goal.returns
returns g c = c.put_kind.ensures ⨾ (c.put_numbers_members.ensures ⨾ c.put_guid_members.ensures ⨾ c.put_fault_member.ensures) ⨾ c.end_object.ensures

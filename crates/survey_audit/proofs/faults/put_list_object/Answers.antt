use Rattle.hii_bytes.proofs.WritingLemmas.{◌⨾◌}
use Rattle.survey_audit.proofs.faults.put_list_object.Goals as goal

pub returns : goal.returns
returns g c = c.put_kind.ensures ⨾ (c.put_number.ensures ⨾ c.put_fault_member.ensures) ⨾ c.end_object.ensures

use Rattle.hii_bytes.proofs.WritingLemmas.{◌⨾◌}
use Rattle.dump_audit.proofs.lines.put_object.Goals as goal

pub returns : goal.returns
returns g c = λ finding is. c.put_kind.ensures ⨾ (c.put_head_members.ensures ⨾ c.put_finding_members.ensures finding is) ⨾ c.end_object.ensures

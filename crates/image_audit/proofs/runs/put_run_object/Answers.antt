use Rattle.hii_bytes.proofs.WritingLemmas.{◌⨾◌}
use Rattle.image_audit.proofs.runs.put_run_object.Goals as goal

pub returns : goal.returns
returns g c = c.put_kind.ensures ⨾ c.put_run_members.ensures ⨾ c.end_object.ensures

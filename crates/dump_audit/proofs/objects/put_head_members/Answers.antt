use Rattle.hii_bytes.proofs.WritingLemmas.{◌⨾◌}
use Rattle.dump_audit.proofs.objects.put_head_members.Goals as goal

pub returns : goal.returns
returns g c = c.put_number.ensures ⨾ c.put_number-2.ensures ⨾ c.put_number-3.ensures

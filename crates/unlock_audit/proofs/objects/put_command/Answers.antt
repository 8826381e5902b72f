use Rattle.hii_bytes.proofs.WritingLemmas.{◌⨾◌}
use Rattle.unlock_audit.proofs.objects.put_command.Goals as goal

pub returns : goal.returns
returns g c = c.put_before_item.ensures ⨾ (c.put.ensures ⨾ c.put_set.ensures ⨾ c.put-2.ensures)

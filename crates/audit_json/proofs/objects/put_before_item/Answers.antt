use Rattle.hii_bytes.proofs.WritingLemmas.{◌⨾◌}
use Rattle.audit_json.proofs.objects.put_before_item.Goals as goal

pub returns-then-is_first : goal.returns-then-is_first
returns-then-is_first g c = rw c.if-is_first.true (c.put_member.ensures ⨾ c.put.ensures)

pub returns-else-is_first : goal.returns-else-is_first
returns-else-is_first g c = rw c.if-is_first.false c.put-else-is_first.ensures

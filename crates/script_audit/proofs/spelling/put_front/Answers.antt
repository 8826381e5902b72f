use Rattle.hii_bytes.proofs.WritingLemmas.{◌⨾◌}
use Rattle.script_audit.proofs.spelling.put_front.Goals as goal

pub returns-in-Objects : goal.returns-in-Objects
returns-in-Objects g c = rw c.in-Objects.is (c.put_kind.ensures ⨾ c.put_member.ensures ⨾ c.put-in-Objects.ensures)

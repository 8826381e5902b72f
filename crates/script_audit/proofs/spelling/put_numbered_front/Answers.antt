use Rattle.hii_bytes.proofs.WritingLemmas.{◌⨾◌}
use Rattle.script_audit.proofs.spelling.put_numbered_front.Goals as goal

pub returns-in-Lines : goal.returns-in-Lines
returns-in-Lines g c = rw c.in-Lines.is (c.put.ensures ⨾ c.put_decimal.ensures ⨾ c.put-in-Lines.ensures)

pub returns-in-Objects : goal.returns-in-Objects
returns-in-Objects g c = rw c.in-Objects.is (c.put_kind.ensures ⨾ c.put_number.ensures ⨾ c.put_member.ensures ⨾ c.put-in-Objects.ensures)

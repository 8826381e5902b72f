use Rattle.hii_bytes.proofs.WritingLemmas.{◌⨾◌}
use Rattle.script_audit.proofs.changes.put_id.Goals as goal

pub returns-in-Lines : goal.returns-in-Lines
returns-in-Lines g c = rw c.in-Lines.is (rw c.from.ensures at (c.put.ensures ⨾ c.put_decimal.ensures ⨾ c.put-in-Lines.ensures))

pub returns-in-Objects : goal.returns-in-Objects
returns-in-Objects g c = rw c.in-Objects.is (rw c.from-in-Objects.ensures at (c.put_kind.ensures ⨾ c.put_number.ensures ⨾ c.put_member.ensures ⨾ c.put-in-Objects.ensures))

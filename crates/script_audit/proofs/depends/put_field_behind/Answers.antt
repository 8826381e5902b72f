use Rattle.hii_bytes.proofs.WritingLemmas.{◌⨾◌}
use Rattle.script_audit.proofs.depends.put_field_behind.Goals as goal

pub returns-in-Some : goal.returns-in-Some
returns-in-Some g c = rw c.in-Some.is (c.put.ensures ⨾ c.put_field.ensures)

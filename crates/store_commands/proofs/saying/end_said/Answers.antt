use Rattle.hii_bytes.proofs.WritingLemmas.{◌⨾◌}
use Rattle.store_commands.proofs.saying.end_said.Goals as goal

pub returns-in-Lines : goal.returns-in-Lines
returns-in-Lines g c = rw c.in-Lines.is c.put.ensures

pub returns-in-Objects : goal.returns-in-Objects
returns-in-Objects g c = rw c.in-Objects.is (c.put-in-Objects.ensures ⨾ c.end_object.ensures)

use Rattle.hii_bytes.proofs.WritingLemmas.{◌⨾◌}
use Rattle.opcode_audit.proofs.line.put_place_members.Goals as goal

pub returns : goal.returns
returns g c = c.put_number.ensures ⨾ c.put_number-2.ensures ⨾ c.put_number-3.ensures

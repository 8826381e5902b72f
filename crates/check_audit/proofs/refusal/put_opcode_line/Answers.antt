use Rattle.hii_bytes.proofs.WritingLemmas.{◌⨾◌}
use Rattle.check_audit.proofs.refusal.put_opcode_line.Goals as goal

pub returns : goal.returns
returns g c = c.put_left.ensures ⨾ c.put_name.ensures ⨾ c.put.ensures ⨾ c.put_bytes.ensures ⨾ c.put-2.ensures

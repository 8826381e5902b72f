use Rattle.hii_bytes.proofs.WritingLemmas.{◌⨾◌}
use Rattle.check_audit.proofs.refusal.put_byte_line.Goals as goal

pub returns : goal.returns
returns g c = c.put_left.ensures ⨾ c.put_hexadecimal.ensures.text ⨾ c.put.ensures

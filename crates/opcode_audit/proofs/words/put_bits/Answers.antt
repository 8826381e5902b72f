use Rattle.hii_bytes.proofs.WritingLemmas.{◌⨾◌}
use Rattle.opcode_audit.proofs.words.put_bits.Goals as goal

pub returns : goal.returns
returns g c = c.put.ensures ⨾ c.put_hexadecimal.ensures.text

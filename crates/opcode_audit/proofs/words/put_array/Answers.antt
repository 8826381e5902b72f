use Rattle.hii_bytes.proofs.WritingLemmas.{◌⨾◌}
use Rattle.opcode_audit.proofs.words.put_array.Goals as goal

pub returns : goal.returns
returns g c = c.put.ensures ⨾ c.put_numbers.ensures ⨾ c.put-2.ensures

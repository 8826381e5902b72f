use Rattle.hii_bytes.proofs.WritingLemmas.{◌⨾◌}
use Rattle.opcode_audit.proofs.words.put_quoted_guid.Goals as goal

pub returns : goal.returns
returns g c = c.put.ensures ⨾ c.put_guid.ensures ⨾ c.put-2.ensures

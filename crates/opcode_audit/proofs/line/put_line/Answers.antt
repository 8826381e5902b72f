use Rattle.hii_bytes.proofs.WritingLemmas.{◌⨾◌}
use Rattle.opcode_audit.proofs.line.put_line.Goals as goal

pub returns : goal.returns
returns g c =
    c.put_place.ensures ⨾ c.put.ensures ⨾ c.put_place-2.ensures ⨾ c.put-2.ensures ⨾ c.put_spaces.ensures ⨾ c.put_words.ensures ⨾ c.put-3.ensures ⨾ c.put_bytes.ensures ⨾ c.put-4.ensures

use Rattle.hii_bytes.proofs.WritingLemmas.{◌⨾◌}
use Rattle.question_rows.proofs.subjects.put_opcode.Goals as goal

pub returns : goal.returns
returns g c = rw c.opcode_name.ensures at (c.put.ensures ⨾ (c.put-2.ensures ⨾ c.put-3.ensures ⨾ c.put-4.ensures ⨾ c.put_flags.ensures) ⨾ c.put-5.ensures)

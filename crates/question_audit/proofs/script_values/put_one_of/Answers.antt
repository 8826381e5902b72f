use Rattle.hii_bytes.proofs.WritingLemmas.{◌⨾◌}
use Rattle.question_audit.proofs.script_values.put_one_of.Goals as goal

pub returns-in-Number : goal.returns-in-Number
returns-in-Number g c = rw c.in-Number.is (c.put.ensures ⨾ c.put_decimal.ensures)

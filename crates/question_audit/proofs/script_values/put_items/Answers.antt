use Rattle.hii_bytes.proofs.WritingLemmas.{◌⨾◌}
use Rattle.question_audit.proofs.script_values.put_items.Goals as goal

pub returns-in-Some : goal.returns-in-Some
returns-in-Some g c = rw c.in-Some.ensures (c.put_decimal.ensures ⨾ c.put_later.ensures)

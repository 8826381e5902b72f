use Rattle.hii_bytes.proofs.WritingLemmas.{◌⨾◌}
use Rattle.question_rows.proofs.depends.put_unknown.Goals as goal

pub returns : goal.returns
returns g c = rw (c.start_of.ensures, c.from.ensures) at (c.put.ensures ⨾ (c.put-2.ensures ⨾ c.put_decimal.ensures ⨾ c.put-3.ensures) ⨾ c.put-4.ensures)

use Rattle.hii_bytes.proofs.WritingLemmas.{◌⨾◌}
use Rattle.question_rows.proofs.decided.put_item.Goals as goal

pub returns : goal.returns
returns g c = rw c.behind.ensures at (c.put_question_link.ensures ⨾ c.put.ensures)

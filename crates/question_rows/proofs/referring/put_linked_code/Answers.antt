use Rattle.hii_bytes.proofs.WritingLemmas.{◌⨾◌}
use Rattle.question_rows.proofs.referring.put_linked_code.Goals as goal

pub returns : goal.returns
returns g c = c.put.ensures ⨾ c.put_linked.ensures ⨾ c.put-2.ensures

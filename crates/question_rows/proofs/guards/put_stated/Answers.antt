use Rattle.hii_bytes.proofs.WritingLemmas.{◌⨾◌}
use Rattle.question_rows.proofs.guards.put_stated.Goals as goal

pub returns : goal.returns
returns g c = c.put.ensures ⨾ c.put-2.ensures ⨾ c.put-3.ensures ⨾ c.put_linked_code.ensures

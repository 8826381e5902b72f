use Rattle.hii_bytes.proofs.WritingLemmas.{◌⨾◌}
use Rattle.question_audit.proofs.questions.put_denial.Goals as goal

pub returns : goal.returns
returns g c = rw (c.from.ensures, c.as_bytes.ensures.value, c.name.ensures) at (c.put.ensures ⨾ c.put-2.ensures ⨾ c.put_place.ensures)

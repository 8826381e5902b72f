use Rattle.hii_bytes.proofs.WritingLemmas.{◌⨾◌}
use Rattle.question_objects.proofs.members.put_denial.Goals as goal

pub returns : goal.returns
returns g c = rw (c.from.ensures, c.as_bytes.ensures.value, c.name.ensures) at (c.put_word.ensures ⨾ c.put_number.ensures)

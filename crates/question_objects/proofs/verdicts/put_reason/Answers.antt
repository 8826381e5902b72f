use Rattle.hii_bytes.proofs.WritingLemmas.{◌⨾◌}
use Rattle.question_objects.proofs.verdicts.put_reason.Goals as goal

pub returns : goal.returns
returns g c =
    rw (c.from.ensures, c.as_bytes.ensures.value, c.name.ensures) at
    (c.put.ensures ⨾ (c.put_first_member.ensures ⨾ (c.put-2.ensures ⨾ c.put-3.ensures ⨾ c.put-4.ensures) ⨾ c.put_number.ensures) ⨾ c.put-5.ensures)

use Rattle.hii_bytes.proofs.WritingLemmas.{◌⨾◌}
use Rattle.question_objects.proofs.objects.put_no_question.Goals as goal

pub returns : goal.returns
returns g c =
    rw c.from.ensures at
    (c.put_kind.ensures ⨾ (c.put_member.ensures ⨾ (c.put.ensures ⨾ c.put_decimal.ensures ⨾ c.put-2.ensures)) ⨾ c.end_object.ensures)

use Rattle.hii_bytes.proofs.WritingLemmas.{◌⨾◌}
use Rattle.question_objects.proofs.option_parts.put_members.Goals as goal

pub returns : goal.returns
returns g c =
    rw (c.value.ensures, c.op.ensures.bytes, c.text-2.ensures, c.text.ensures, c.op-2.ensures.bytes) at
    (c.put_first_member.ensures ⨾ (c.put.ensures ⨾ c.put_decimal.ensures ⨾ c.put-2.ensures) ⨾ c.put_text.ensures ⨾ c.put_verdict.ensures)

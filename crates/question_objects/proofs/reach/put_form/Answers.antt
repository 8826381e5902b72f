use Rattle.hii_bytes.proofs.WritingLemmas.{◌⨾◌}
use Rattle.question_objects.proofs.reach.put_form.Goals as goal

pub returns : goal.returns
returns g c =
    rw (c.from.ensures, c.id.ensures, c.from-2.ensures, c.place.ensures, c.text.ensures, c.title.ensures, c.op-op.ensures.bytes, c.to.ensures) at
    (c.put_kind.ensures ⨾ (c.put_number.ensures ⨾ c.put_number-2.ensures ⨾ c.put_text.ensures ⨾ c.put_reach.ensures) ⨾ c.end_object.ensures)

use Rattle.hii_bytes.proofs.WritingLemmas.{◌⨾◌}
use Rattle.image_audit.proofs.value_objects.put_question_members.Goals as goal

pub returns : goal.returns
returns g c = rw (c.from.ensures, c.id.ensures, c.text.ensures, c.prompt.ensures, c.op.ensures.bytes, c.statement.ensures, c.from-2.ensures, c.place.ensures, c.statement-2.ensures) at (c.put_number.ensures ⨾ c.put_text.ensures ⨾ c.put_number-2.ensures)

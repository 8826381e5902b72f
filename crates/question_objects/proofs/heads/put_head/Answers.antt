use Rattle.hii_bytes.proofs.WritingLemmas.{◌⨾◌}
use Rattle.question_objects.proofs.heads.put_head.Goals as goal

pub returns : goal.returns
returns g c = rw (c.requires.names, c.field.ensures.found) at (c.put_ids.ensures ⨾ c.put_texts.ensures ⨾ c.put_field.ensures)

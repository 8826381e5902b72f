use Rattle.hii_bytes.proofs.WritingLemmas.{◌⨾◌}
use Rattle.question_objects.proofs.conditions.put_words.Goals as goal

pub returns : goal.returns
returns g c = c.put_member.ensures ⨾ (c.put.ensures ⨾ c.put-2.ensures ⨾ c.put-3.ensures)

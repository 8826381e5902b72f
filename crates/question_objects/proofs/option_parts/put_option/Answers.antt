use Rattle.hii_bytes.proofs.WritingLemmas.{◌⨾◌}
use Rattle.question_objects.proofs.option_parts.put_option.Goals as goal

pub returns : goal.returns
returns g c = c.put.ensures ⨾ (c.put_members.ensures ⨾ c.put_told.ensures) ⨾ c.put-2.ensures

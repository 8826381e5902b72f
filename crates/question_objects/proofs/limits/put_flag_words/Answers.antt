use Rattle.hii_bytes.proofs.WritingLemmas.{◌⨾◌}
use Rattle.question_objects.proofs.limits.put_flag_words.Goals as goal

pub returns : goal.returns
returns g c = c.put_member.ensures ⨾ c.put.ensures

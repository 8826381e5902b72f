use Rattle.hii_bytes.proofs.WritingLemmas.{◌⨾◌}
use Rattle.question_objects.proofs.limits.put_counts.Goals as goal

pub returns : goal.returns
returns g c = c.put_number.ensures ⨾ c.put_number-2.ensures

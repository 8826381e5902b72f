use Rattle.hii_bytes.proofs.WritingLemmas.{◌⨾◌}
use Rattle.question_objects.proofs.limits.put_numeric.Goals as goal

pub returns : goal.returns
returns g c = rw (c.minimum.ensures, c.maximum.ensures) at (c.put_bound.ensures ⨾ c.put_bound-2.ensures ⨾ c.put_step.ensures)

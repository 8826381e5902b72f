use Rattle.hii_bytes.proofs.WritingLemmas.{◌⨾◌}
use Rattle.question_objects.proofs.limits.put_elements.Goals as goal

pub returns : goal.returns
returns g c =
    rw (c.least_of.ensures, c.from.ensures, c.max_containers.ensures, c.is_unique_set.ensures) at (c.put_counts.ensures ⨾ c.put_where.ensures)

use Rattle.hii_bytes.proofs.WritingLemmas.{◌⨾◌}
use Rattle.question_objects.proofs.members.put_places.Goals as goal

pub returns : goal.returns
returns g c = λ n e. rw (c.from-place.ensures, e) at (c.put_number.ensures ⨾ c.put_number-2.ensures)

use Rattle.hii_bytes.proofs.WritingLemmas.{◌⨾◌}
use Rattle.question_objects.proofs.reach.put_reach.Goals as goal

pub returns-in-Closed : goal.returns-in-Closed
returns-in-Closed g c = rw c.in-Closed.is (rw c.from.ensures at (c.put_word-in-Closed.ensures ⨾ c.put_number.ensures))

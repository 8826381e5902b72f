use Rattle.hii_bytes.proofs.WritingLemmas.{◌⨾◌}
use Rattle.question_objects.proofs.guards.put_guard.Goals as goal

pub returns-in-Listed : goal.returns-in-Listed
returns-in-Listed g c = rw c.in-Listed.is (rw (c.from.ensures, c.place.ensures) at (c.put_before_item.ensures ⨾ c.put_decimal.ensures))

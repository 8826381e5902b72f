use Rattle.hii_bytes.proofs.WritingLemmas.{writes_nil}
use Rattle.question_objects.proofs.rules.put_rules.Goals as goal

pub returns-in-Listed-clause-told : goal.returns-in-Listed-clause-told
returns-in-Listed-clause-told g c = rw c.in-Listed.is (writes_nil _)

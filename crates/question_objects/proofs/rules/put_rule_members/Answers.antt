use Rattle.hii_bytes.proofs.WritingLemmas.{◌⨾◌}
use Rattle.question_objects.proofs.rules.put_rule_members.Goals as goal

pub returns : goal.returns
returns g c = λ n at words. rw words at (c.put_places.ensures n at ⨾ c.put_words.ensures)

use Rattle.hii_bytes.proofs.WritingLemmas.{◌⨾◌}
use Rattle.question_objects.proofs.conditions.put_condition.Goals as goal

pub returns : goal.returns
returns g c = λ n at words. rw words at (c.put_places.ensures n at ⨾ c.put_word.ensures ⨾ c.put_words.ensures)

use Rattle.hii_bytes.proofs.WritingLemmas.{◌⨾◌}
use Rattle.question_rows.proofs.states.put_badge.Goals as goal

pub returns : goal.returns
returns g c =
    rw (c.as_bytes.ensures.value, c.standing_class.ensures, c.as_bytes-2.ensures.value, c.standing_word.ensures) at
    (c.put.ensures ⨾ c.put-2.ensures ⨾ c.put-3.ensures ⨾ c.put-4.ensures ⨾ c.put-5.ensures)

use Rattle.hii_bytes.proofs.WritingLemmas.{◌⨾◌}
use Rattle.question_rows.proofs.depends.put_known.Goals as goal

pub returns-clause-told : goal.returns-clause-told
returns-clause-told g c =
    rw (c.start_of.ensures, c.deref.ensures.value, c.in_ok-answer.ensures) at
    (c.put.ensures ⨾ (c.put-2.ensures ⨾ c.put_question_link.ensures ⨾ c.put-3.ensures) ⨾ c.put-4.ensures)

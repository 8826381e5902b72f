use Rattle.hii_bytes.proofs.WritingLemmas.{◌⨾◌}
use Rattle.question_objects.proofs.option_items.put_item.Goals as goal

pub returns-clause-told : goal.returns-clause-told
returns-clause-told g c = λ places told.
    let words = c.in_ok-words.ensures.words places told in
    rw (words, c.own_denial-denial.ensures) at (c.put_before_item.ensures ⨾ c.put_option.ensures)

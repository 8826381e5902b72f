use Rattle.std.proofs.Common.{◌∙◌}
use Rattle.hii_bytes.proofs.WritingLemmas.{◌⨾◌}
use Rattle.question_rows.proofs.rules.put_rule.Goals as goal

pub returns-clause-told : goal.returns-clause-told
returns-clause-told g c =
    let words = rw c.expression.ensures at (c.deref.ensures.value ∙ c.in_ok-words.ensures) in
    rw (c.from.ensures, c.id_of_rule-id.ensures, words) at
    (c.put.ensures ⨾ (c.put-2.ensures ⨾ c.put_decimal.ensures ⨾ c.put-3.ensures ⨾ c.put_linked_code.ensures) ⨾ c.put-4.ensures)

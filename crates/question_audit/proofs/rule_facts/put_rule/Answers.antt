use Rattle.hii_bytes.proofs.WritingLemmas.{◌⨾◌}
use Rattle.question_audit.proofs.rule_facts.put_rule.Goals as goal

pub returns : goal.returns
returns g c =
    rw (c.from.ensures, c.id_of_rule-id.ensures, c.from-place.ensures, c.place.ensures, c.of-text.ensures, c.expression.ensures) at
    (c.put_column.ensures ⨾ c.put_decimal.ensures ⨾ c.put.ensures ⨾ c.put_place.ensures ⨾ c.put-2.ensures ⨾ c.put_hexadecimal.ensures.text ⨾ c.put-3.ensures ⨾ c.put-4.ensures ⨾ c.put-5.ensures)

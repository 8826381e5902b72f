use Rattle.hii_bytes.proofs.WritingLemmas.{◌⨾◌}
use Rattle.question_rows.proofs.links.put_question_link.Goals as goal

pub returns : goal.returns
returns g c =
    rw (c.place.ensures, c.from.ensures, c.id.ensures, c.chars.ensures, c.text.ensures, c.prompt.ensures, c.op.ensures.bytes, c.statement.ensures) at
    (c.put_link.ensures ⨾ c.put_decimal.ensures ⨾ c.put.ensures ⨾ c.put_isolated_shown.ensures ⨾ c.put-2.ensures)

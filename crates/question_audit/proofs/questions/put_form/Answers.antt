use Rattle.hii_bytes.proofs.WritingLemmas.{◌⨾◌}
use Rattle.question_audit.proofs.questions.put_form.Goals as goal

pub returns : goal.returns
returns g c =
    rw (c.from.ensures, c.id.ensures, c.chars.ensures, c.text.ensures, c.title.ensures, c.op-op.ensures.bytes, c.to.ensures) at
    (c.put_decimal.ensures ⨾ c.put.ensures ⨾ c.put_safe_shown.ensures ⨾ c.put_reach.ensures)

use Rattle.hii_bytes.proofs.WritingLemmas.{◌⨾◌}
use Rattle.question_rows.proofs.options.put_option.Goals as goal

pub returns : goal.returns
returns g c =
    rw (c.is_some.ensures, c.own_denial.ensures, c.value.ensures, c.op.ensures.bytes, c.chars.ensures, c.text-2.ensures, c.text.ensures, c.op-2.ensures.bytes) at
    (c.put_option_start.ensures ⨾ c.put_decimal.ensures ⨾ c.put.ensures ⨾ c.put_isolated_shown.ensures ⨾ c.put-2.ensures)

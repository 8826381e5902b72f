use Rattle.hii_bytes.proofs.WritingLemmas.{◌⨾◌}
use Rattle.form_page.proofs.page.Page.put_page.Goals as goal

pub returns : goal.returns
returns g c = rw (c.from.ensures, c.id.ensures, c.op.ensures.bytes, c.chars.ensures, c.title.ensures, c.rows.ensures) at (c.put.ensures ⨾ c.put_decimal.ensures ⨾ c.put-2.ensures ⨾ c.put_shown.ensures ⨾ c.put-3.ensures ⨾ c.put_rows.ensures)

use Rattle.hii_bytes.proofs.WritingLemmas.{◌⨾◌}
use Rattle.report_audit.proofs.forms.put_section_head.Goals as goal

pub returns : goal.returns
returns g c =
    c.put.ensures ⨾ (rw (c.from.ensures, c.place.ensures) at c.put_hexadecimal.ensures.text) ⨾ c.put-2.ensures ⨾ c.put_form_title.ensures ⨾ c.put-3.ensures
    ⨾ (rw (c.from-2.ensures, c.id.ensures, c.op.ensures.bytes) at c.put_decimal.ensures) ⨾ (rw c.to.ensures at c.put_mark.ensures) ⨾ c.put-4.ensures

use Rattle.hii_bytes.proofs.WritingLemmas.{◌⨾◌}
use Rattle.report_audit.proofs.heads.put_heading.Goals as goal

pub returns : goal.returns
returns g c =
    c.put.ensures ⨾ (rw (c.chars.ensures, c.report_title.ensures) at c.put_isolated_shown.ensures) ⨾ c.put-2.ensures ⨾ c.put_form_set_counts.ensures ⨾ c.put_counts.ensures ⨾ c.put-3.ensures

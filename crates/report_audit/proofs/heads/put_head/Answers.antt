use Rattle.hii_bytes.proofs.WritingLemmas.{◌⨾◌}
use Rattle.report_audit.proofs.heads.put_head.Goals as goal

pub returns : goal.returns
returns g c =
    c.put.ensures ⨾ c.put_policy.ensures ⨾ c.put-2.ensures ⨾ (rw (c.chars.ensures, c.report_title.ensures) at c.put_html_shown.ensures) ⨾ c.put-3.ensures ⨾ c.put_style.ensures

use Rattle.hii_bytes.proofs.WritingLemmas.{◌⨾◌}
use Rattle.audit_html.proofs.texts.put_isolated_bytes.Goals as goal

pub returns : goal.returns
returns g c = c.put.ensures ⨾ c.put_html_bytes.ensures ⨾ c.put-2.ensures

use Rattle.hii_bytes.proofs.WritingLemmas.{◌⨾◌}
use Rattle.audit_html.proofs.links.put_link.Goals as goal

pub returns : goal.returns
returns g c =
    let number = rw c.from.ensures at c.put_hexadecimal.ensures.text in
    c.put.ensures ⨾ c.put-2.ensures ⨾ number ⨾ c.put-3.ensures

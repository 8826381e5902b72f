use Rattle.hii_bytes.proofs.WritingLemmas.{◌⨾◌}
use Rattle.check_audit.proofs.package_lines.put_package.Goals as goal

pub returns : goal.returns
returns g c = c.put_head.ensures ⨾ c.put_verdict.ensures

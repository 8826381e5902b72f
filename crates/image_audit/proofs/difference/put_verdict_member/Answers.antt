use Rattle.hii_bytes.proofs.WritingLemmas.{◌⨾◌}
use Rattle.image_audit.proofs.difference.put_verdict_member.Goals as goal

pub returns : goal.returns
returns g c = λ denied is. c.put_member.ensures ⨾ (c.put.ensures ⨾ (c.put_verdict.ensures denied is ⨾ c.put-2.ensures))

use Rattle.hii_bytes.proofs.WritingLemmas.{◌⨾◌}
use Rattle.question_audit.proofs.question_facts.put_verdict_facts.Goals as goal

pub returns : goal.returns
returns g c = c.put_verdict_fact.ensures ⨾ c.put_also.ensures

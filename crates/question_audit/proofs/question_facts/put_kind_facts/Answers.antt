use Rattle.hii_bytes.proofs.WritingLemmas.{◌⨾◌}
use Rattle.question_audit.proofs.question_facts.put_kind_facts.Goals as goal

pub returns : goal.returns
returns g c = rw (c.op.ensures.bytes, c.statement.ensures) at (c.put_flags_fact.ensures ⨾ c.put_limits_fact.ensures ⨾ c.put_outside_fact.ensures)

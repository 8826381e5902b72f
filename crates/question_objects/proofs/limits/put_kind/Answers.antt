use Rattle.hii_bytes.proofs.WritingLemmas.{◌⨾◌}
use Rattle.question_objects.proofs.limits.put_kind.Goals as goal

pub returns : goal.returns
returns g c = rw (c.op.ensures.bytes, c.statement.ensures) at (c.put_flags.ensures ⨾ c.put_limits.ensures ⨾ c.put_outside_member.ensures)

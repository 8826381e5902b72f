use Rattle.hii_bytes.proofs.WritingLemmas.{◌⨾◌}
use Rattle.check_audit.proofs.warning_lines.put_constant_members.Goals as goal

pub returns : goal.returns
returns g c = rw c.guard_at-guard.ensures.found (c.put_holds.ensures ⨾ (c.put_member.ensures ⨾ (rw c.expression.ensures at c.put_quoted_condition.ensures)))

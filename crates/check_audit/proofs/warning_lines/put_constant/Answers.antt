use Rattle.std.proofs.Common.{ap}
use Rattle.ifr_opcodes.specs.Opcode.{number}
use Rattle.hii_bytes.proofs.WritingLemmas.{◌⨾◌}
use Rattle.check_audit.proofs.warning_lines.put_constant.Goals as goal

pub returns : goal.returns
returns g c =
    rw c.guard_at-guard.ensures.found ((rw (c.opcode_name.ensures, ap number c.op.ensures.bytes) at c.put.ensures) ⨾ (rw c.verdict_word.ensures at c.put-2.ensures) ⨾ (rw (c.of.ensures, c.expression.ensures) at c.put-3.ensures))

use Rattle.std.proofs.Common.{subst}
use Rattle.hii_bytes.proofs.WritingLemmas.{◌⨾◌, writes_nil}
use Rattle.hii_bytes.specs.Watching.{Writes}
use Rattle.ifr_opcodes.specs.code.Ops.{bytes_of}
use Rattle.question_audit.proofs.ScriptLemmas.{no_number}
use Rattle.question_audit.proofs.script_values.put_numeric.Goals as goal

pub returns-in-Number : goal.returns-in-Number
returns-in-Number g c =
    rw c.in-Number.is (c.put.ensures ⨾ (rw (c.numeric_value-shown.ensures, c.in-Number.is) at c.put_row_value.ensures))

pub returns-in_default : goal.returns-in_default
returns-in_default g c =
    subst (Writes _ _) (no_number c.args.value c.args.before.now (bytes_of c.args.op.op) c.in_default.not-Number) (writes_nil _)

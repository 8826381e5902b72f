use Rattle.hii_bytes.proofs.WritingLemmas.{◌⨾◌}
use Rattle.question_audit.proofs.ScriptLemmas.{digit_is}
use Rattle.question_audit.proofs.script_values.put_checkbox.Goals as goal

pub returns-in-Boolean : goal.returns-in-Boolean
returns-in-Boolean g c =
    rw c.in-Boolean.is (c.put.ensures ⨾ (rw (digit_is c.in-Boolean.is_checked c.from.result c.from.ensures) at c.put_decimal.ensures))

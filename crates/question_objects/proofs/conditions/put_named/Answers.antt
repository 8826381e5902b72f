use Rattle.std.proofs.Common.{ap, ◌∙◌}
use Rattle.hii_bytes.proofs.WritingLemmas.{◌⨾◌}
use Rattle.audit_text.specs.Words.{opcode_name}
use Rattle.question_objects.proofs.conditions.put_named.Goals as goal

pub returns : goal.returns
returns g c = λ n at code words.
    rw (c.opcode_name.ensures ∙ ap opcode_name code) at
    (c.put_first_member.ensures ⨾ (c.put.ensures ⨾ c.put-2.ensures ⨾ c.put-3.ensures) ⨾ c.put_condition.ensures n at words)

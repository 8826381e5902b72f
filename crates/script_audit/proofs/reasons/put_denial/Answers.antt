use Rattle.hii_bytes.proofs.WritingLemmas.{◌⨾◌}
use Rattle.script_audit.proofs.reasons.put_denial.Goals as goal

pub returns : goal.returns
returns g c =
    rw (c.forms.ensures, c.policy.ensures, c.fixed_words.ensures) at
    (c.put_of_question.ensures ⨾ c.put_of_statement.ensures ⨾ c.put.ensures)

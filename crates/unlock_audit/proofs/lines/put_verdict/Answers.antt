use Rattle.std.proofs.Common.{ap, sym}
use Rattle.hii_bytes.proofs.WritingLemmas.{◌⨾◌}
use Rattle.condition_text.proofs.WriteLemmas.{written_as}
use Rattle.question_audit.specs.QuestionLines.{verdict_columns}
use Rattle.unlock_audit.specs.code.Answers.{denial_in}
use Rattle.unlock_audit.proofs.lines.put_verdict.Goals as goal

pub returns-in-Ok : goal.returns-in-Ok
returns-in-Ok g c =
    written_as (c.put_left.ensures ⨾ c.put_spaces.ensures) (ap (λ v. verdict_columns (denial_in v)) (sym c.in-Ok.is))

pub returns-in-Err : goal.returns-in-Err
returns-in-Err g c =
    written_as (rw (c.from.ensures, c.as_bytes.ensures.value, c.name.ensures) at (c.put_left-in-Err.ensures ⨾ c.put.ensures ⨾ c.put_place.ensures)) (ap (λ v. verdict_columns (denial_in v)) (sym c.in-Err.is))

use Rattle.std.proofs.Common.{ap, sym}
use Rattle.hii_bytes.proofs.WritingLemmas.{◌⨾◌}
use Rattle.condition_text.proofs.WriteLemmas.{written_as}
use Rattle.unlock_audit.specs.Told.{verdict_members}
use Rattle.unlock_audit.specs.code.Answers.{denial_in}
use Rattle.unlock_audit.proofs.objects.put_verdict.Goals as goal

pub returns-in-Err : goal.returns-in-Err
returns-in-Err g c =
    written_as (rw (c.from.ensures, c.as_bytes.ensures.value, c.name.ensures) at (c.put_word-in-Err.ensures ⨾ c.put_number.ensures)) (ap (λ v. verdict_members (denial_in v)) (sym c.in-Err.is))

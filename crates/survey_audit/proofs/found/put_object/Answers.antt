use Rattle.hii_bytes.proofs.WritingLemmas.{◌⨾◌}
use Rattle.question_audit.proofs.BeginningLemmas.{at_error, begun_before, begun_behind}
use Rattle.survey_audit.proofs.found.put_object.Goals as goal

pub returns-clause-told : goal.returns-clause-told
returns-clause-told g c = c.put_kind.ensures ⨾ (c.put_numbers_members.ensures ⨾ c.in_ok-put_listed_members.ensures.told) ⨾ c.end_object.ensures

pub returns-in_err-put_listed_members-clause-begun : goal.returns-in_err-put_listed_members-clause-begun
returns-in_err-put_listed_members-clause-begun g c =
    at_error c.from_residual.result (begun_before _ (begun_behind c.put_kind.ensures (begun_behind c.put_numbers_members.ensures c.in_err-put_listed_members.ensures.begun)))

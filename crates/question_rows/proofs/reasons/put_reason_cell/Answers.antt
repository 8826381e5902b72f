use Rattle.hii_bytes.proofs.WritingLemmas.{◌⨾◌}
use Rattle.question_audit.proofs.BeginningLemmas.{at_error, begun_before, begun_behind}
use Rattle.question_rows.proofs.reasons.put_reason_cell.Goals as goal

pub returns-clause-told : goal.returns-clause-told
returns-clause-told g c = c.in_ok-put_conditions.ensures.told ⨾ c.in_ok-put_dependences.ensures.told

pub returns-in_err-put_conditions-clause-begun : goal.returns-in_err-put_conditions-clause-begun
returns-in_err-put_conditions-clause-begun g c = at_error c.from_residual.result (begun_before _ c.in_err-put_conditions.ensures.begun)

pub returns-in_err-put_dependences-clause-begun : goal.returns-in_err-put_dependences-clause-begun
returns-in_err-put_dependences-clause-begun g c = at_error c.from_residual-in_err-put_dependences.result (begun_behind c.in_ok-put_conditions.ensures.told c.in_err-put_dependences.ensures.begun)

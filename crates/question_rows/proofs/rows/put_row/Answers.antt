use Rattle.hii_bytes.proofs.WritingLemmas.{◌⨾◌}
use Rattle.question_audit.proofs.BeginningLemmas.{at_error, begun_before, begun_behind}
use Rattle.question_rows.proofs.rows.put_row.Goals as goal

pub returns-clause-told : goal.returns-clause-told
returns-clause-told g c =
    c.put_row_head.ensures ⨾ c.put.ensures ⨾ c.put_subject_cell.ensures ⨾ c.put-2.ensures ⨾ c.in_ok-put_value_cell.ensures.told ⨾ c.put-3.ensures ⨾ c.in_ok-put_reason_cell.ensures.told ⨾ c.put-4.ensures

pub returns-in_err-put_value_cell-clause-begun : goal.returns-in_err-put_value_cell-clause-begun
returns-in_err-put_value_cell-clause-begun g c =
    at_error c.from_residual.result
    (begun_before _ (begun_before _ (begun_before _ (begun_behind (c.put_row_head.ensures ⨾ c.put.ensures ⨾ c.put_subject_cell.ensures ⨾ c.put-2.ensures) c.in_err-put_value_cell.ensures.begun))))

pub returns-in_err-put_reason_cell-clause-begun : goal.returns-in_err-put_reason_cell-clause-begun
returns-in_err-put_reason_cell-clause-begun g c =
    at_error c.from_residual-in_err-put_reason_cell.result
    (begun_before _
    (begun_behind (c.put_row_head.ensures ⨾ c.put.ensures ⨾ c.put_subject_cell.ensures ⨾ c.put-2.ensures ⨾ c.in_ok-put_value_cell.ensures.told ⨾ c.put-3.ensures) c.in_err-put_reason_cell.ensures.begun))

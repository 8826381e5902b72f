use Rattle.hii_bytes.proofs.WritingLemmas.{◌⨾◌}
use Rattle.question_audit.proofs.BeginningLemmas.{at_error, begun_before, first_begun}
use Rattle.question_audit.proofs.OptionLemmas.{nothing_begun}
use Rattle.question_rows.proofs.values.put_value_cell.Goals as goal

pub returns-clause-told : goal.returns-clause-told
returns-clause-told g c =
    rw (c.statement-statement.ensures, c.requires.known.names, c.field.ensures.found) at
    (c.in_ok-put_value.ensures.told ⨾ c.in_ok-put_default.ensures.told ⨾ c.put_limits.ensures ⨾ c.put_options.ensures ⨾ c.in_ok-put_field.ensures.told ⨾ c.put_leads.ensures)

pub returns-in_err-put_value-clause-begun : goal.returns-in_err-put_value-clause-begun
returns-in_err-put_value-clause-begun g c = at_error c.from_residual.result (rw c.in_err-put_value.ensures.nothing (nothing_begun _ _))

pub returns-in_err-put_default-clause-begun : goal.returns-in_err-put_default-clause-begun
returns-in_err-put_default-clause-begun g c =
    at_error c.from_residual-in_err-put_default.result
    (rw c.in_err-put_default.ensures.nothing (begun_before _ (begun_before _ (begun_before _ (begun_before _ (first_begun _ c.in_ok-put_value.ensures.told))))))

pub returns-in_err-put_field-clause-begun : goal.returns-in_err-put_field-clause-begun
returns-in_err-put_field-clause-begun g c =
    at_error c.from_residual-in_err-put_field.result
    (rw c.in_err-put_field.ensures.nothing
    (begun_before _ (first_begun _ (rw c.statement-statement.ensures at (c.in_ok-put_value.ensures.told ⨾ c.in_ok-put_default.ensures.told ⨾ c.put_limits.ensures ⨾ c.put_options.ensures)))))

use Rattle.std.proofs.Common.{inl, refl}
use Rattle.question_audit.proofs.BeginningLemmas.{at_error}
use Rattle.survey_commands.proofs.sets.put_over.Goals as goal

pub returns-in_err-removed-clause-begun : goal.returns-in_err-removed-clause-begun
returns-in_err-removed-clause-begun g c = λ list stands. at_error c.from_residual.result (inl refl)

use Rattle.std.proofs.Common.{sym, ◌∙◌}
use Rattle.std.proofs.lemmas.Result.{err_from_is_err_and}
use Rattle.guard_policy.proofs.DenialLemmas.{first_allows, first_denies}
use Rattle.guard_policy.proofs.standing.unless_fixed.Goals as goal

pub returns-in_err-unless_grayed_out : goal.returns-in_err-unless_grayed_out
returns-in_err-unless_grayed_out c =
    let p = err_from_is_err_and c.from_residual.result c.from_residual.ensures.1 in
    rw (p.1, p.2) (sym (first_denies _ _ c.in_err-unless_grayed_out.field-0.0 (sym c.in_err-unless_grayed_out.ensures)))

pub returns : goal.returns
returns c = c.fixed_as_question.ensures ∙ sym (first_allows _ _ (sym c.in_ok-unless_grayed_out.ensures))

use Rattle.std.proofs.Common.{inl}
use Rattle.std.proofs.lemmas.Result.{err_from_is_err_and}
use Rattle.browser_core.proofs.session.Session.open.Goals as goal

pub returns-in_err-core-clause-accepted : goal.returns-in_err-core-clause-accepted
returns-in_err-core-clause-accepted c =
    let p = err_from_is_err_and c.from_residual.result c.from_residual.ensures.1 in
    λ sound. rw (p.1, p.2) (c.in_err-core.ensures.accepted sound)

pub returns-in_err-line-clause-refused : goal.returns-in_err-line-clause-refused
returns-in_err-line-clause-refused c =
    let p = err_from_is_err_and c.from_residual-in_err-line.result c.from_residual-in_err-line.ensures.1 in
    rw (p.1, p.2) (inl c.in_err-line.ensures.memory)

pub returns-in_err-line-clause-accepted : goal.returns-in_err-line-clause-accepted
returns-in_err-line-clause-accepted c =
    let p = err_from_is_err_and c.from_residual-in_err-line.result c.from_residual-in_err-line.ensures.1 in
    λ sound. rw (p.1, p.2) c.in_err-line.ensures.memory

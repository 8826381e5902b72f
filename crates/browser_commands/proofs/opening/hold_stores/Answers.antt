use Rattle.std.proofs.Common.{inl}
use Rattle.std.proofs.lemmas.Result.{err_from_is_err_and}
use Rattle.browser_commands.proofs.opening.hold_stores.Goals as goal

pub returns-in_err-spare-clause-refused : goal.returns-in_err-spare-clause-refused
returns-in_err-spare-clause-refused c =
    let p = err_from_is_err_and c.from_residual-in_err-spare.result c.from_residual-in_err-spare.ensures.1 in
    rw (p.1, p.2) (inl c.in_err-spare.ensures.refused)

use Rattle.std.proofs.lemmas.Result.{err_from_is_err_and}
use Rattle.session_steps.proofs.SourceLemmas.{list_refuses, number_refuses}
use Rattle.browser_commands.proofs.browser.find_source.Goals as goal

pub returns-in_err-packages-clause-refused : goal.returns-in_err-packages-clause-refused
returns-in_err-packages-clause-refused c =
    let p = err_from_is_err_and c.from_residual.result c.from_residual.ensures.1 in
    rw (p.1, p.2) (list_refuses c.args.list.now c.args.number _ c.in_err-packages.ensures.refused)

pub returns-in_err-forms-clause-refused : goal.returns-in_err-forms-clause-refused
returns-in_err-forms-clause-refused c =
    let p = err_from_is_err_and c.from_residual-in_err-forms.result c.from_residual-in_err-forms.ensures.1 in
    let refused = rw c.in_ok-packages.ensures.read at c.in_err-forms.ensures.refused in
    rw (p.1, p.2) (number_refuses c.args.list.now c.args.number _ c.in_ok-packages.ensures.sound refused)

pub returns-clause-found : goal.returns-clause-found
returns-clause-found c =
    (c.in_ok-packages.ensures.sound, rw c.in_ok-packages.ensures.read at c.in_ok-forms.ensures.found)

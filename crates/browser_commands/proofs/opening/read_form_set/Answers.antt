use Rattle.std.proofs.lemmas.Result.{err_from_is_err_and}
use Rattle.browser_commands.proofs.OpeningLemmas.{package_refuses, questions_refuse_in, stores_refuse_in}
use Rattle.browser_commands.proofs.opening.read_form_set.Goals as goal

pub returns-in_err-forms-clause-refused : goal.returns-in_err-forms-clause-refused
returns-in_err-forms-clause-refused c =
    let p = err_from_is_err_and c.from_residual.result c.from_residual.ensures.1 in
    rw (p.1, p.2) (package_refuses _ _ c.in_err-forms.ensures.refused)

pub returns-in_err-layout-clause-refused : goal.returns-in_err-layout-clause-refused
returns-in_err-layout-clause-refused c =
    let p = err_from_is_err_and c.from_residual-in_err-layout.result c.from_residual-in_err-layout.ensures.1 in
    rw (p.1, p.2) (stores_refuse_in c.in_ok-forms.forms _ _ c.in_ok-forms.ensures.read c.in_ok-forms.ensures.accepted c.in_err-layout.ensures.refused)

pub returns-in_err-questions-clause-refused : goal.returns-in_err-questions-clause-refused
returns-in_err-questions-clause-refused c =
    let p = err_from_is_err_and c.from_residual-in_err-questions.result c.from_residual-in_err-questions.ensures.1 in
    rw (p.1, p.2) (questions_refuse_in c.in_ok-forms.forms _ _ c.in_ok-forms.ensures.read c.in_ok-forms.ensures.accepted c.in_ok-layout.ensures.sound c.in_err-questions.ensures.refused)

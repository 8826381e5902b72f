use Rattle.std.proofs.lemmas.Result.{IfErr-weaker, IfOk-weaker, err_from_is_err_and}
use Rattle.session_steps.proofs.SourceLemmas.{list_refuses, number_refuses}
use Rattle.store_audit.proofs.declared.forms_package.Goals as goal

pub returns-in_err-packages-clause-refused : goal.returns-in_err-packages-clause-refused
returns-in_err-packages-clause-refused c =
    let p = err_from_is_err_and c.from_residual.result c.from_residual.ensures.1 in
    rw (p.1, p.2) (list_refuses c.args.list.now c.args.number _ c.in_err-packages.ensures.refused)

pub returns-clause-found : goal.returns-clause-found
returns-clause-found c =
    IfOk-weaker c.forms.result _ _ (λ source found. (c.in_ok-packages.ensures.sound, rw c.in_ok-packages.ensures.read at found)) c.forms.ensures.found

pub returns-clause-refused : goal.returns-clause-refused
returns-clause-refused c =
    IfErr-weaker c.forms.result _ _
    (λ fault refused. number_refuses c.args.list.now c.args.number fault c.in_ok-packages.ensures.sound (rw c.in_ok-packages.ensures.read at refused))
    c.forms.ensures.refused

use Rattle.std.proofs.lemmas.Result.{IfOk-weaker, IfErr-weaker, err_from_is_err_and}
use Rattle.hii_packages.specs.code.Package.{package_of}
use Rattle.store_audit.proofs.DeclaringLemmas.{form_set_refuses, none_declared, source_refuses}
use Rattle.store_audit.proofs.declared.Declared.read.Goals as goal

pub returns-in_err-source-clause-refused : goal.returns-in_err-source-clause-refused
returns-in_err-source-clause-refused c =
    let p = err_from_is_err_and c.from_residual.result c.from_residual.ensures.1 in
    rw (p.1, p.2) (source_refuses c.args.list.now c.args.number _ c.in_err-source.ensures.refused)

pub returns-clause-found : goal.returns-clause-found
returns-clause-found c = IfOk-weaker c.of_package.result _ _ (λ declared read. (package_of c.in_ok-source.source, c.in_ok-source.ensures.found, read)) c.of_package.ensures.read

pub returns-clause-sound : goal.returns-clause-sound
returns-clause-sound c = IfOk-weaker c.of_package.result _ _ (λ declared none. none_declared c.args.list.now c.args.number _ c.in_ok-source.ensures.found none) c.of_package.ensures.sound

pub returns-clause-refused : goal.returns-clause-refused
returns-clause-refused c =
    IfErr-weaker c.of_package.result _ _ (λ fault refused. form_set_refuses c.args.list.now c.args.number _ fault c.in_ok-source.ensures.found refused) c.of_package.ensures.refused

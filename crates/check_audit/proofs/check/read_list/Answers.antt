use Rattle.std.proofs.Common.{arith}
use Rattle.std.proofs.lemmas.Result.{err_from_is_err_and}
use Rattle.hii_bytes.proofs.NumberLemmas.{number_in-lt}
use Rattle.hii_packages.specs.code.Package.{package_of}
use Rattle.check_audit.proofs.CheckLemmas.{list_refused, nothing_refused, number_refused, texts_refused}
use Rattle.check_audit.proofs.check.read_list.Goals as goal

pub returns-in_err-packages-clause-refused : goal.returns-in_err-packages-clause-refused
returns-in_err-packages-clause-refused c =
    let p = err_from_is_err_and c.from_residual.result c.from_residual.ensures.1 in
    rw (p.1, p.2) (list_refused c.args.list.now _ c.in_err-packages.ensures.refused)

pub returns-in_err-forms-clause-refused : goal.returns-in_err-forms-clause-refused
returns-in_err-forms-clause-refused c =
    let p = err_from_is_err_and c.from_residual-in_err-forms.result c.from_residual-in_err-forms.ensures.1 in
    rw (p.1, p.2) (number_refused c.args.list.now _ _ c.in_ok-packages.ensures.read c.in_ok-packages.ensures.sound c.in_err-forms.ensures.refused)

pub returns-in_err-lacks-clause-refused : goal.returns-in_err-lacks-clause-refused
returns-in_err-lacks-clause-refused c =
    let p = err_from_is_err_and c.from_residual-in_err-lacks.result c.from_residual-in_err-lacks.ensures.1 in
    rw (p.1, p.2) (texts_refused c.args.list.now _ (package_of c.in_ok-forms.field-0) _ c.in_ok-packages.ensures.read c.in_ok-packages.ensures.sound c.in_ok-forms.ensures.found c.in_err-lacks.ensures.refused)

pub returns-clause-sound : goal.returns-clause-sound
returns-clause-sound c = nothing_refused c.args.list.now _ (package_of c.in_ok-forms.field-0) c.in_ok-packages.ensures.read c.in_ok-packages.ensures.sound c.in_ok-forms.ensures.found c.in_ok-lacks.ensures.sound

pub read-requires-2 : goal.read-requires-2
read-requires-2 c =
    let small = number_in-lt c.args.list.now 16 4 (λ i. omega (arith, c.type_inv.list i)) in
    rw c.in_ok-packages.ensures.read (omega (arith, small))

use Rattle.std.proofs.Common.{◌≡◌, ◌∙◌, ap, not, true}
use Rattle.std.specs.Prelude.{is_some}
use Rattle.std.proofs.lemmas.Result.{err_from_is_err_and}
use Rattle.hii_packages.specs.code.Package.{package_of}
use Rattle.store_commands.proofs.TextLemmas.{source_refuses, texts_refuse, with_some}
use Rattle.store_commands.proofs.texts.texts_for.Goals as goal

pub returns-in_err-forms_package-clause-refused : goal.returns-in_err-forms_package-clause-refused
returns-in_err-forms_package-clause-refused c =
    let p = err_from_is_err_and c.from_residual.result c.from_residual.ensures.1 in
    let options = c.args.options.now in
    let some : is_some options.defaults ≡ true = c.is_none.ensures ∙ ap not c.if-is_none.false in
    let refused = rw c.from.ensures at c.in_err-forms_package.ensures.refused in
    rw (p.1, p.2) (with_some options.defaults c.args.list.now options.list.forms _ some (λ class. source_refuses class c.args.list.now options.list.forms _ refused))

pub returns-in_err-read-clause-refused : goal.returns-in_err-read-clause-refused
returns-in_err-read-clause-refused c =
    let p = err_from_is_err_and c.from_residual-in_err-read.result c.from_residual-in_err-read.ensures.1 in
    let options = c.args.options.now in
    let some : is_some options.defaults ≡ true = c.is_none.ensures ∙ ap not c.if-is_none.false in
    let found = rw c.from.ensures at c.in_ok-forms_package.ensures.found in
    rw (p.1, p.2) (with_some options.defaults c.args.list.now options.list.forms _ some
    (λ class. texts_refuse class c.args.list.now c.in_ok-packages.packages options.list.forms (package_of c.in_ok-forms_package.field-0) _ c.in_ok-packages.ensures.read found c.in_err-read.ensures.refused))

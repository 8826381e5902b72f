use Rattle.std.proofs.Common.{ap, arith, sym, inr}
use Rattle.std.proofs.lemmas.Result.{err_from_is_err_and}
use Rattle.browser_rules.specs.Packages.{Package}
use Rattle.hii_bytes.specs.Faults.{Then}
use Rattle.hii_bytes.proofs.FaultLemmas.{then_first}
use Rattle.hii_packages.specs.code.Package.{package_of}
use Rattle.session_steps.specs.Opening.{forms_bytes, IsBrowsingFault, IsSourceFault, IsTextFault}
use Rattle.session_steps.proofs.SourceLemmas.{one_source}
use Rattle.audit_answers.proofs.ListingLemmas.{source_inside}
use Rattle.audit_commands.specs.Auditing.{placed_in}
use Rattle.audit_commands.proofs.opened.Opened.read.Goals as goal

pub returns-in_err-package-clause-refused : goal.returns-in_err-package-clause-refused
returns-in_err-package-clause-refused c =
    let p = err_from_is_err_and c.from_residual.result c.from_residual.ensures.1 in
    let list = c.args.given.list.now in
    let n = c.args.given.forms in
    rw (p.1, p.2) (inr (then_first (IsSourceFault list n) (Then (IsTextFault list) (IsBrowsingFault (forms_bytes list n) c.args.given.stores.now)) _ c.in_err-package.ensures.refused))

pub overflow_add-place : goal.overflow_add-place
overflow_add-place c =
    let its = c.in_ok-package.package in
    let inside = source_inside c.args.given.list.now c.args.given.forms (package_of its) c.in_ok-package.ensures.found its.header in
    omega (arith, inside, c.requires)

pub returns-in_err-browser-clause-refused : goal.returns-in_err-browser-clause-refused
returns-in_err-browser-clause-refused c =
    let p = err_from_is_err_and c.from_residual-in_err-browser.result c.from_residual-in_err-browser.ensures.1 in
    rw (p.1, p.2) c.in_err-browser.ensures.refused

pub invariant_of-result : goal.invariant_of-result
invariant_of-result c =
    let opens = c.in_ok-browser.ensures.opened.0 in
    let its = c.in_ok-package.package in
    let source = one_source c.args.given.list.now c.args.given.forms (package_of its) opens.source c.in_ok-package.ensures.found opens.found in
    let inside = source_inside c.args.given.list.now c.args.given.forms (package_of its) c.in_ok-package.ensures.found its.header in
    record { inside = rw (opens.bytes, sym (ap (λ (p : Package). p.bytes) source)) (omega (arith, inside, c.requires)) }

pub returns-clause-opened : goal.returns-clause-opened
returns-clause-opened c =
    let opens = c.in_ok-browser.ensures.opened.0 in
    let its = c.in_ok-package.package in
    let source = one_source c.args.given.list.now c.args.given.forms (package_of its) opens.source c.in_ok-package.ensures.found opens.found in
    record { opens = opens; placed = ap (λ (p : Package). placed_in c.args.origin p.place) source }

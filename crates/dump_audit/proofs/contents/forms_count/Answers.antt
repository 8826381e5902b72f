use Rattle.std.proofs.Common.{◌≤◌, length, arith}
use Rattle.hii_packages.specs.Packages.{packages_of}
use Rattle.dump_audit.specs.Contents.{forms_in}
use Rattle.hii_packages.specs.code.Package.{package_of}
use Rattle.dump_audit.proofs.ContentLemmas.{fewer_pass, one_counted}
use Rattle.dump_audit.proofs.contents.forms_count.Goals as goal

pub overflow_add-count : goal.overflow_add-count
overflow_add-count c =
    let one = one_counted c.loop-source.source-iterator _ (package_of c.in-Some.source) c.in-Some.ensures.steps c.if-source-eq-FORMS.true in
    let few : length (forms_in (packages_of c.args.list.now)) ≤ length (packages_of c.args.list.now) = fewer_pass _ (packages_of c.args.list.now) in
    omega (arith, one, few, c.loop-source.invariant.sum, c.loop-source.invariant.few)

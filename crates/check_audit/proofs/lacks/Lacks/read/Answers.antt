use Rattle.std.proofs.Common.{◌≡◌, true, ap, arith, length}
use Rattle.std.proofs.lemmas.Bool.Decides.{nat_tests}
use Rattle.std.proofs.lemmas.List.{length-map}
use Rattle.std.proofs.lemmas.Result.{err_from_is_err_and}
use Rattle.hii_packages.specs.code.Package.{package_of}
use Rattle.hii_languages.proofs.SpokenLemmas.{is_strings}
use Rattle.check_audit.specs.code.Lacking.{lack_seen}
use Rattle.check_audit.proofs.LackLemmas.{few_lacks, gathers_all, gathers_fault, gathers_more}
use Rattle.check_audit.proofs.lacks.Lacks.read.Goals as goal

pub returns-in_err-table-clause-refused : goal.returns-in_err-table-clause-refused
returns-in_err-table-clause-refused c =
    let strings : is_strings (package_of c.in-Some.source) ≡ true = grind (arith, nat_tests) in
    let p = err_from_is_err_and c.from_residual.result c.from_residual.ensures.1 in
    rw (p.1, p.2) (gathers_fault (package_of c.in-Some.source) _ c.loop-source.invariant c.in-Some.ensures.steps strings c.in_err-table.ensures.refused)

pub loop-source-preserved-then-source-eq-STRINGS : goal.loop-source-preserved-then-source-eq-STRINGS
loop-source-preserved-then-source-eq-STRINGS c =
    let strings : is_strings (package_of c.in-Some.source) ≡ true = grind (arith, nat_tests) in
    rw (c.in_ok-with_table.ensures.first, c.in_ok-with_table.ensures.added)
    (gathers_more (package_of c.in-Some.source) c.in_ok-table.table c.loop-source.invariant c.in-Some.ensures.steps strings c.in_ok-table.ensures.read c.in_ok-table.ensures.sound)

pub invariant_of-result : goal.invariant_of-result
invariant_of-result c =
    let told = (gathers_all c.loop-source.invariant c.in-None.ensures.steps.0).told in
    let same = length-map c.loop-source.all.items lack_seen in
    let few = few_lacks c.args.list.now c.requires in
    let size = ap length told in
    omega (arith, few, same, size)

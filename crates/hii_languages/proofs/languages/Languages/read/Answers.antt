use Rattle.std.proofs.Common.{◌≡◌, ◌++◌, ◌∷◌, [], true, inl, inr, arith}
use Rattle.std.proofs.lemmas.Bool.Decides.{nat_tests}
use Rattle.std.proofs.lemmas.Grind.{common_steps}
use Rattle.std.proofs.lemmas.Result.{err_from_is_err_and}
use Rattle.hii_packages.specs.code.Package.{package_of}
use Rattle.hii_packages.specs.Packages.{packages_of}
use Rattle.sibt_strings.proofs.FaultLemmas.{some_least}
use Rattle.hii_languages.proofs.SpokenLemmas.{is_strings, read_more, read_fault}
use Rattle.hii_languages.proofs.languages.Languages.read.Goals as goal

pub returns-in_err-table-clause-refused : goal.returns-in_err-table-clause-refused
returns-in_err-table-clause-refused c =
    let r = rw c.in-Some.ensures.steps at c.loop-source.invariant in
    let strings : is_strings (package_of c.in-Some.source) ≡ true = grind (arith, nat_tests) in
    let p = err_from_is_err_and c.from_residual.result c.from_residual.ensures.1 in
    rw (p.1, p.2)
    (elim c.in_err-table.ensures.refused [
      | inl memory ↦ inl memory
      | inr least ↦ inr (read_fault (packages_of c.args.list.now) c.loop-source.tables.items (package_of c.in-Some.source) _ _ r strings least)
    ])

pub returns-in_err-table-clause-accepted : goal.returns-in_err-table-clause-accepted
returns-in_err-table-clause-accepted c = λ none.
    let r = rw c.in-Some.ensures.steps at c.loop-source.invariant in
    let strings : is_strings (package_of c.in-Some.source) ≡ true = grind (arith, nat_tests) in
    let p = err_from_is_err_and c.from_residual.result c.from_residual.ensures.1 in
    rw (p.1, p.2)
    (elim c.in_err-table.ensures.refused [
      | inl memory ↦ memory
      | inr least ↦ absurd (some_least _ _ (read_fault (packages_of c.args.list.now) c.loop-source.tables.items (package_of c.in-Some.source) _ _ r strings least) none)
    ])

pub loop-source-preserved-in_ok-push : goal.loop-source-preserved-in_ok-push
loop-source-preserved-in_ok-push c =
    let r = rw c.in-Some.ensures.steps at c.loop-source.invariant in
    let strings : is_strings (package_of c.in-Some.source) ≡ true = grind (arith, nat_tests) in
    let pushed : c.push.new.self.items ≡ c.loop-source.tables.items ++ c.in_ok-table.table ∷ [] = grind (arith, common_steps) in
    rw pushed (read_more (packages_of c.args.list.now) c.loop-source.tables.items (package_of c.in-Some.source) _ c.in_ok-table.table r strings c.in_ok-table.ensures.read c.in_ok-table.ensures.sound)

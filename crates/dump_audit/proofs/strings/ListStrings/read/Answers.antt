use Rattle.std.proofs.Common.{◌≡◌, true, List, [], ◌∷◌, ◌++◌, map, Bor, ap, ◌∙◌, arith, ℕ}
use Rattle.std.proofs.lemmas.Bool.Decides.{nat_tests}
use Rattle.std.proofs.lemmas.Grind.{common_steps}
use Rattle.std.proofs.lemmas.List.{map-append}
use Rattle.std.proofs.lemmas.Result.{err_from_is_err_and}
use Rattle.hii_packages.specs.code.Package.{package_of}
use Rattle.hii_languages.proofs.SpokenLemmas.{is_strings}
use Rattle.dump_audit.proofs.ContentLemmas.{gathers_more, gathers_fault}
use Rattle.dump_audit.proofs.strings.ListStrings.read.Goals as goal

pub returns-in_err-table-clause-refused : goal.returns-in_err-table-clause-refused
returns-in_err-table-clause-refused c =
    let strings : is_strings (package_of c.in-Some.source) ≡ true = grind (arith, nat_tests) in
    let p = err_from_is_err_and c.from_residual.result c.from_residual.ensures.1 in
    rw (p.1, p.2) (gathers_fault (package_of c.in-Some.source) _ c.loop-source.invariant c.in-Some.ensures.steps strings c.in_err-table.ensures.refused)

pub loop-source-preserved-then-source-eq-STRINGS : goal.loop-source-preserved-then-source-eq-STRINGS
loop-source-preserved-then-source-eq-STRINGS c =
    let strings : is_strings (package_of c.in-Some.source) ≡ true = grind (arith, nat_tests) in
    let now : Bor (List ℕ) → List ℕ = λ language. language.now in
    let pushed : c.push.new.self.items ≡ c.loop-source.languages.items ++ c.language.result ∷ [] = grind (arith, common_steps) in
    let languages = ap (map now) pushed ∙ map-append now c.loop-source.languages.items (c.language.result ∷ []) ∙ ap (λ (l : List ℕ). map now c.loop-source.languages.items ++ l ∷ []) c.language.ensures in
    rw (languages, c.or-first.ensures) (gathers_more (package_of c.in-Some.source) c.in_ok-table.table c.loop-source.invariant c.in-Some.ensures.steps strings c.in_ok-table.ensures.read c.in_ok-table.ensures.sound)

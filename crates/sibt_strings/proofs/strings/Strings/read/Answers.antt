use Rattle.std.proofs.Common.{◌≡◌, [], subst}
use Rattle.browser_rules.specs.Faults.{string_package_faults}
use Rattle.browser_rules.specs.Strings.{spoken_by}
use Rattle.hii_packages.specs.code.Package.{package_of}
use Rattle.hii_packages.specs.declared.package.Package.{Package}
use Rattle.sibt_strings.specs.code.Views.{spoken_in}
use Rattle.sibt_strings.proofs.FaultLemmas.{some_least, parts_say}
use Rattle.sibt_strings.proofs.strings.Strings.read.Goals as goal

pub returns-in_err-parts-clause-accepted : goal.returns-in_err-parts-clause-accepted
returns-in_err-parts-clause-accepted c = λ none. absurd (some_least _ _ c.in_err-parts.ensures.refused none)

pub returns-in_err-language-in-Ok-clause-accepted : goal.returns-in_err-language-in-Ok-clause-accepted
returns-in_err-language-in-Ok-clause-accepted c = λ none. absurd (some_least _ _ (rw c.in_ok-parts.ensures.parts at c.in_err-language-in-Ok.ensures.refused) none)

pub returns-in_ok-language-in-Ok-clause-spoken : goal.returns-in_ok-language-in-Ok-clause-spoken
returns-in_ok-language-in-Ok-clause-spoken c =
    let p = c.in_ok-parts.parts in
    let language = c.in_ok-language-in-Ok.field-0.now in
    subst (λ (s : Package). spoken_in language p.block_bytes.now ≡ spoken_by (package_of s)) c.in_ok-parts.ensures.parts
    (parts_say (package_of p.source) language p.block_bytes.now p.fixed p.blocks_are c.in_ok-language-in-Ok.ensures.language c.in-Ok.ensures.whole).0

pub returns-in_ok-language-in-Ok-clause-sound : goal.returns-in_ok-language-in-Ok-clause-sound
returns-in_ok-language-in-Ok-clause-sound c =
    let p = c.in_ok-parts.parts in
    subst (λ (s : Package). string_package_faults (package_of s) ≡ []) c.in_ok-parts.ensures.parts
    (parts_say (package_of p.source) _ p.block_bytes.now p.fixed p.blocks_are c.in_ok-language-in-Ok.ensures.language c.in-Ok.ensures.whole).1

pub returns-in-Err-clause-accepted : goal.returns-in-Err-clause-accepted
returns-in-Err-clause-accepted c = λ none. absurd (some_least _ _ (rw c.in_ok-parts.ensures.parts at c.least_fault.ensures) none)

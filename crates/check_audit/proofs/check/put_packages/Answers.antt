use Rattle.std.proofs.Common.{ℕ, Bool, ◌==◌, sym, ap, ◌∙◌}
use Rattle.std.specs.Prelude.{◌&&◌}
use Rattle.browser_rules.specs.Packages.{FORMS}
use Rattle.hii_packages.specs.code.Package.{package_of}
use Rattle.check_audit.specs.Verdicts.{is_good}
use Rattle.check_audit.proofs.CheckLemmas.{goes_as, goes_begun, goes_more, told_all}
use Rattle.check_audit.proofs.check.put_packages.Goals as goal

pub loop-source-init : goal.loop-source-init
loop-source-init g c =
    rw c.into_iter-source-iterator.ensures.into_iter_gives (goes_begun _ _ _ _ _ c.requires.sound c.packages-source-items.ensures.all c.packages-source-items.ensures.few)

pub loop-source-preserved-then-is_good : goal.loop-source-preserved-then-is_good
loop-source-preserved-then-is_good g c =
    let said = c.in_ok-is_next_good.ensures.told in
    let more = goes_more (package_of c.in-Some.source) said.0 c.loop-source.invariant c.in-Some.ensures.steps (ap (λ (k : ℕ). k == FORMS) c.if-source-eq-FORMS.true) (rw (c.requires.strings, c.requires.lacks) at said.1) (rw (c.requires.strings, c.requires.lacks) at said.3) in
    goes_as _ _ _ _ _ _ _ (ap (λ (b : Bool). b && is_good said.0) c.if-is_good.true ∙ sym said.2) more

pub loop-source-preserved-else-is_good : goal.loop-source-preserved-else-is_good
loop-source-preserved-else-is_good g c =
    let said = c.in_ok-is_next_good.ensures.told in
    let more = goes_more (package_of c.in-Some.source) said.0 c.loop-source.invariant c.in-Some.ensures.steps (ap (λ (k : ℕ). k == FORMS) c.if-source-eq-FORMS.true) (rw (c.requires.strings, c.requires.lacks) at said.1) (rw (c.requires.strings, c.requires.lacks) at said.3) in
    goes_as _ _ _ _ _ _ _ (ap (λ (b : Bool). b && is_good said.0) c.if-is_good.false ∙ sym c.if-is_good.false) more

pub returns-clause-told : goal.returns-clause-told
returns-clause-told g c = told_all c.loop-source.invariant c.in-None.ensures.steps.0

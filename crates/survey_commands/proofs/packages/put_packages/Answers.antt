use Rattle.std.proofs.Common.{ℕ, ◌+◌, ◌==◌, List, ap, arith, subst, ◌∙◌}
use Rattle.browser_rules.specs.Packages.{FORMS}
use Rattle.browser_rules.specs.Strings.{Spoken}
use Rattle.condition_text.proofs.WriteLemmas.{written_as}
use Rattle.hii_packages.specs.Packages.{packages_of}
use Rattle.hii_packages.specs.code.Package.{package_of}
use Rattle.question_audit.proofs.BeginningLemmas.{at_error}
use Rattle.survey_commands.specs.Surveying.{BeginsSet, finding_told, heading_for}
use Rattle.survey_commands.specs.code.Views.{asked_view, numbered}
use Rattle.survey_commands.proofs.PackageLemmas.{goes_begun, goes_more, next_found, next_inside, stands_in, told_all, told_some}
use Rattle.survey_commands.proofs.packages.put_packages.Goals as goal

pub loop-source-init : goal.loop-source-init
loop-source-init g c =
    let read = c.requires.read.packages in
    rw c.into_iter-source-iterator.ensures.into_iter_gives
    (goes_begun _ _ _ _ c.requires.read.whole (c.packages-source-items.ensures.all ∙ ap packages_of read) c.packages-source-items.ensures.few)

pub put_set-requires-clause-in_dump : goal.put_set-requires-clause-in_dump
put_set-requires-clause-in_dump g c =
    let inside = next_inside (package_of c.in-Some.source) c.loop-source.invariant c.in-Some.ensures.steps c.in-Some.source.header in
    omega (arith, inside, c.requires.in_dump)

pub overflow_add-heading : goal.overflow_add-heading
overflow_add-heading g c =
    let inside = next_inside (package_of c.in-Some.source) c.loop-source.invariant c.in-Some.ensures.steps c.in-Some.source.header in
    omega (arith, inside, c.requires.in_dump)

pub loop-source-preserved-in-Continue-1 : goal.loop-source-preserved-in-Continue-1
loop-source-preserved-in-Continue-1 g c =
    let p = package_of c.in-Some.source in
    let inv = c.loop-source.invariant in
    let steps = c.in-Some.ensures.steps in
    let forms = ap (λ (k : ℕ). k == FORMS) c.if-source-eq-FORMS.true in
    let stands = stands_in c.args.list.bytes.now _ _ c.requires.read.whole (next_found p inv steps forms) c.requires.read.texts in
    let said = c.in_ok-put_set.ensures.told c.args.list.bytes.now stands in
    let h = heading_for (asked_view g.F.StoreFiles.known c.args.asked.now) (numbered c.args.list_number c.args.list) (c.loop-source.number + 1) p in
    let told = written_as said.2 (ap (λ (s : List Spoken). finding_told (asked_view g.F.StoreFiles.known c.args.asked.now) (record h { spoken = s }) said.0) c.requires.read.strings) in
    goes_more p said.0 inv steps forms said.1 told

pub returns-in_err-put_set-clause-begun : goal.returns-in_err-put_set-clause-begun
returns-in_err-put_set-clause-begun g c =
    let p = package_of c.in-Some.source in
    let inv = c.loop-source.invariant in
    let steps = c.in-Some.ensures.steps in
    let forms = ap (λ (k : ℕ). k == FORMS) c.if-source-eq-FORMS.true in
    let stands = stands_in c.args.list.bytes.now _ _ c.requires.read.whole (next_found p inv steps forms) c.requires.read.texts in
    let said = c.in_err-put_set.ensures.begun c.args.list.bytes.now stands in
    let h = heading_for (asked_view g.F.StoreFiles.known c.args.asked.now) (numbered c.args.list_number c.args.list) (c.loop-source.number + 1) p in
    let begins = subst (λ (s : List Spoken). BeginsSet (asked_view g.F.StoreFiles.known c.args.asked.now) c.args.list.bytes.now (record h { spoken = s }) said.0) c.requires.read.strings said.1 in
    at_error c.from_residual.result (told_some p said.0 c.requires.read.none inv steps forms begins said.2)

pub returns-clause-told : goal.returns-clause-told
returns-clause-told g c = told_all c.requires.read.none c.loop-source.invariant c.in-None.ensures.steps.0

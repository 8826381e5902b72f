use Rattle.std.proofs.Common.{Some, filter, sym, ap, ◌∙◌, ◌∷◌, ℕ}
use Rattle.std.proofs.lemmas.Bool.{cond-false}
use Rattle.hii_packages.specs.code.Package.{package_of}
use Rattle.dump_audit.specs.Contents.{begins_with_form_set, first_title}
use Rattle.dump_audit.proofs.ContentLemmas.{sets_more}
use Rattle.dump_audit.proofs.contents.first_title.Goals as goal

pub returns-in-Some-form_set_of : goal.returns-in-Some-form_set_of
returns-in-Some-form_set_of c =
    let e = package_of c.in-Some.source in
    let found = c.in-Some-form_set_of.ensures in
    ap (λ (title : ℕ). Some title) found.2 ∙ sym (ap first_title (sets_more c.loop-source.source-iterator c.next.new.self e c.in-Some.ensures.steps found.0)) ∙ c.loop-source.invariant

pub loop-source-preserved : goal.loop-source-preserved
loop-source-preserved c =
    let e = package_of c.in-Some.source in
    let later = c.next.new.self in
    let fewer = ap (filter begins_with_form_set) c.in-Some.ensures.steps ∙ cond-false (begins_with_form_set e) (e ∷ filter begins_with_form_set later) _ c.in_default.ensures in
    sym (ap first_title fewer) ∙ c.loop-source.invariant

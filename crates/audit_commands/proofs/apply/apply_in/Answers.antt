use Rattle.std.proofs.Common.{ℕ, Bool, List, ap, inl, inr, refl, subst}
use Rattle.std.specs.Io.Buffered.{writer_contents}
use Rattle.hii_bytes.specs.Watching.{has_failed, pen_of}
use Rattle.hii_bytes.specs.declared.cause.Fault.{Fault}
use Rattle.hii_varstore.specs.Image.{image_of}
use Rattle.hii_varstore.specs.Stores.{StoreMap}
use Rattle.question_audit.specs.declared.origin.Origin.{Origin}
use Rattle.store_audit.specs.Images.{WritesImage}
use Rattle.script_audit.specs.Apply.{applied}
use Rattle.audit_answers.proofs.EndingLemmas.{left_image, tells_and_writes, tells_fault_behind, tells_refused}
use Rattle.audit_commands.specs.Applying.{Applies, SaysApply}
use Rattle.audit_commands.specs.Auditing.{Asked}
use Rattle.audit_commands.specs.code.Opened.{IsOpened}
use Rattle.audit_commands.specs.declared.opened.Opened.{Opened}
use Rattle.audit_commands.proofs.apply.apply_in.Goals as goal
use Rattle.audit_json.specs.declared.telling.Telling.{Telling}

-- what the script tells and leaves is said of what is asked for
applies : (telling : Telling) (script : List ℕ) (asked : Asked) (origin : Origin) (opened : Opened) → IsOpened asked origin opened
    → Applies telling asked origin script (applied telling opened.place.place opened.browser.state script)
applies telling script asked origin opened is = record {
  start = opened.browser.state;
  opens = is.opens;
  is = ap (λ (o : Origin). applied telling o.place opened.browser.state script) is.placed;
}

pub returns-in-Ok-true : goal.returns-in-Ok-true
returns-in-Ok-true g c = λ asked origin is.
    let answers = g.A.Write.contents in
    let file = g.O.Write.contents in
    let a = applied c.args.telling c.args.opened.place.place c.args.opened.browser.state c.args.script.now in
    let end = c.apply.new.browser.state in
    let old = c.args.out.now in
    let mid = c.write_image.new.out in
    let left = rw c.in-Ok-true.field-0-test at c.in-Ok-true.ensures.left in
    let its = applies c.args.telling c.args.script.now asked origin c.args.opened is in
    let written = subst (λ (m : StoreMap). WritesImage file m (has_failed c.write_image.new.answers) old mid) c.committed.ensures c.write_image.ensures.written in
    tells_and_writes (SaysApply c.args.telling asked origin c.args.script.now) answers file c.args.answers.now c.write_image.new.answers old mid c.commit.new.out
    (pen_of (writer_contents answers) c.apply.new.out) (image_of end.committed) a.told c.commit.result (a, its, refl, end, left, refl) (a, its, refl, end, left, refl) c.in-Ok-true.ensures.told
    c.write_image.ensures.passed c.write_image.ensures.none_held (λ broken. subst (λ (b : Bool). WritesImage file end.committed b old mid) broken written) c.commit.ensures.unwritten
    c.commit.ensures.written
    (λ sound.
    let w = subst (λ (b : Bool). WritesImage file end.committed b old mid) sound written in
    left_image file old mid c.commit.new.out (image_of end.committed) c.commit.result w.0 w.1 (c.commit.ensures.written sound))

pub returns-in-Ok-false : goal.returns-in-Ok-false
returns-in-Ok-false g c = λ asked origin is.
    let a = applied c.args.telling c.args.opened.place.place c.args.opened.browser.state c.args.script.now in
    let left = rw c.in-Ok-false.field-0-test at c.in-Ok-false.ensures.left in
    let its = applies c.args.telling c.args.script.now asked origin c.args.opened is in
    tells_refused (SaysApply c.args.telling asked origin c.args.script.now) g.A.Write.contents g.O.Write.contents c.args.answers.now c.finish.new.answers c.args.out.now c.args.out.now
    (pen_of (writer_contents g.A.Write.contents) c.apply.new.out) c.finish.result a.told (inl (a, its, refl, left)) c.in-Ok-false.ensures.told c.finish.ensures refl

pub returns : goal.returns
returns g c = λ asked origin is.
    let a = applied c.args.telling c.args.opened.place.place c.args.opened.browser.state c.args.script.now in
    let its = applies c.args.telling c.args.script.now asked origin c.args.opened is in
    let begun = c.in-Err.ensures.begun in
    tells_fault_behind c.args.telling (SaysApply c.args.telling asked origin c.args.script.now) g.A.Write.contents g.O.Write.contents c.args.answers.now c.apply.new.out c.refuse.new.answers
    c.args.out.now c.args.out.now c.in-Err.fault c.refuse.result (λ other. absurd (other (ap (λ (f : Fault). f.cause) c.in-Err.ensures.refused)))
    (λ memory. (begun.front, begun.written, (begun.front, inr (a, its, begun.rest, begun.parts), refl))) c.refuse.ensures refl

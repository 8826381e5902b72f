use Rattle.std.proofs.Common.{[], true, false, inl, inr, refl, subst}
use Rattle.std.specs.Io.Buffered.{writer_contents}
use Rattle.audit_json.specs.Telling.{asked}
use Rattle.audit_answers.specs.Endings.{refused_at_told}
use Rattle.audit_commands.specs.Auditing.{Asked, IsOpenRefusal, asked_of}
use Rattle.audit_commands.specs.Unlocking.{BeginsUnlocks, SaysUnlock, Unlocks}
use Rattle.audit_answers.specs.code.Listing.{listed}
use Rattle.audit_answers.specs.declared.ended.Ended.TheVariants.{Done, Refused}
use Rattle.audit_answers.proofs.EndingLemmas.{is_refusal, none_written, tells, tells_refusal}
use Rattle.audit_commands.proofs.unlock.tell_of.Goals as goal

pub returns-in-Ok-true : goal.returns-in-Ok-true
returns-in-Ok-true g c =
    let id = c.args.options.id in
    let told = rw (c.in-Ok-true.field-0-test, c.of-telling.ensures) at c.in-Ok-true.ensures.told in
    tells (SaysUnlock (asked c.args.options.form_set.json) (asked_of c.args.options.form_set c.args.files.now (listed c.args.list)) id) g.A.Write.contents c.args.answers.now c.finish.new.answers _ Done c.finish.result told.0
    (subst (λ (a : Asked). Unlocks (asked c.args.options.form_set.json) true a id told.0) c.given_of-given.ensures.asked told.1) told.2 c.finish.ensures

pub returns-in-Ok-false : goal.returns-in-Ok-false
returns-in-Ok-false g c =
    let id = c.args.options.id in
    let told = rw (c.in-Ok-false.field-0-test, c.of-telling.ensures) at c.in-Ok-false.ensures.told in
    tells (SaysUnlock (asked c.args.options.form_set.json) (asked_of c.args.options.form_set c.args.files.now (listed c.args.list)) id) g.A.Write.contents c.args.answers.now c.finish-in-Ok-false.new.answers _ Refused
    c.finish-in-Ok-false.result told.0 (inl (subst (λ (a : Asked). Unlocks (asked c.args.options.form_set.json) false a id told.0) c.given_of-given.ensures.asked told.1)) told.2 c.finish-in-Ok-false.ensures

pub returns-in-Err : goal.returns-in-Err
returns-in-Err g c =
    let id = c.args.options.id in
    let same = c.given_of-given.ensures.asked in
    let begun = rw c.of-telling.ensures at c.in-Err.ensures.begun in
    tells_refusal (asked c.args.options.form_set.json) (SaysUnlock (asked c.args.options.form_set.json) (asked_of c.args.options.form_set c.args.files.now (listed c.args.list)) id) g.A.Write.contents c.args.answers.now c.put_unlock_audit.new.out
    c.refuse.new.answers c.in-Err.fault c.refuse.result
    (λ other. (
      [],
      none_written (writer_contents g.A.Write.contents) c.args.answers.now c.put_unlock_audit.new.out (c.in-Err.ensures.nothing other),
      inr (subst (λ (a : Asked). IsOpenRefusal (asked c.args.options.form_set.json) a (refused_at_told (asked c.args.options.form_set.json) c.in-Err.fault)) same (is_refusal (asked c.args.options.form_set.json) _ c.in-Err.fault c.in-Err.ensures.refused other)),
    ))
    (λ memory. (begun.0, begun.2, (begun.0, subst (λ (a : Asked). BeginsUnlocks (asked c.args.options.form_set.json) a id begun.0) same begun.1, refl))) (rw c.of-telling.ensures at c.refuse.ensures)

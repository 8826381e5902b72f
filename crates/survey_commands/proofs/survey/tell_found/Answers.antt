use Rattle.std.proofs.Common.{ap, inr, refl}
use Rattle.hii_bytes.specs.declared.cause.Fault.{Fault}
use Rattle.audit_json.specs.Telling.{asked}
use Rattle.audit_answers.specs.declared.ended.Ended.TheVariants.{Done, Refused}
use Rattle.audit_answers.proofs.EndingLemmas.{tells, tells_refusal}
use Rattle.survey_commands.specs.Survey.{SaysSurvey}
use Rattle.survey_commands.proofs.survey.tell_found.Goals as goal

pub returns-in-Ok-true-clause-told : goal.returns-in-Ok-true-clause-told
returns-in-Ok-true-clause-told g c =
    let told = rw c.in-Ok-true.field-0-test at c.in-Ok-true.ensures.told in
    tells (SaysSurvey (g.F.StoreFiles.known c.args.files.now) c.args.options.now c.args.dump.now) g.A.Write.contents c.args.answers.now c.finish.new.answers _ Done c.finish.result told.0
    (c.args.text.now, c.requires.text, rw (c.of-telling.ensures, c.requires.letters) at told.1) told.2 c.finish.ensures

pub returns-in-Ok-false-clause-told : goal.returns-in-Ok-false-clause-told
returns-in-Ok-false-clause-told g c =
    let told = rw c.in-Ok-false.field-0-test at c.in-Ok-false.ensures.told in
    tells (SaysSurvey (g.F.StoreFiles.known c.args.files.now) c.args.options.now c.args.dump.now) g.A.Write.contents c.args.answers.now c.finish-in-Ok-false.new.answers _ Refused c.finish-in-Ok-false.result told.0
    (inr (c.args.text.now, c.requires.text, rw (c.of-telling.ensures, c.requires.letters) at told.1)) told.2 c.finish-in-Ok-false.ensures

pub returns-in-Err-NoMemory-clause-told : goal.returns-in-Err-NoMemory-clause-told
returns-in-Err-NoMemory-clause-told g c =
    let begun = c.in-Err-NoMemory.ensures.begun in
    tells_refusal (asked c.args.options.now.json) (SaysSurvey (g.F.StoreFiles.known c.args.files.now) c.args.options.now c.args.dump.now) g.A.Write.contents c.args.answers.now c.put_survey.new.out c.refuse.new.answers _ c.refuse.result
    (λ other. absurd (other (ap (λ (f : Fault). f.cause) c.out_of_memory.ensures)))
    (λ memory. (begun.0, begun.2, (begun.0, inr (c.args.text.now, c.requires.text, rw (c.of-telling.ensures, c.requires.letters) at begun.1), refl)))
    (rw c.of-telling.ensures at c.refuse.ensures)

pub returns-in-Err-Unread-clause-unread : goal.returns-in-Err-Unread-clause-unread
returns-in-Err-Unread-clause-unread g c =
    let begun = c.in-Err-Unread.ensures.begun in
    (begun.0, inr (c.args.text.now, c.requires.text, rw (c.of-telling.ensures, c.requires.letters) at begun.1), _, begun.2, c.finish-in-Err-Unread.ensures.0)

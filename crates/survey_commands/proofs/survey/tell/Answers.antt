use Rattle.std.proofs.Common.{◌≡◌, [], Err, ap, inl, refl, subst}
use Rattle.std.proofs.KnownBytes.{Keeps-refl}
use Rattle.exported_config.specs.Exported.{responses_in}
use Rattle.exported_config.specs.Giving.{exported}
use Rattle.exported_config.specs.code.Views.{IsUnread}
use Rattle.exported_config.specs.declared.unread.Unread.{Unread}
use Rattle.hii_bytes.specs.declared.cause.Fault.{Fault}
use Rattle.hii_bytes.proofs.WritingLemmas.{writes_nil}
use Rattle.audit_json.specs.Telling.{asked}
use Rattle.audit_answers.specs.declared.ended.Ended.TheVariants.{Refused}
use Rattle.audit_answers.proofs.EndingLemmas.{tells, tells_refusal}
use Rattle.store_commands.specs.Configured.{bad_response_told}
use Rattle.survey_commands.specs.Survey.{SaysSurvey}
use Rattle.survey_commands.proofs.ConfigLemmas.{text_is_bad, text_is_sound}
use Rattle.survey_commands.proofs.survey.tell.Goals as goal

pub returns-in-Err-NoMemory-clause-told : goal.returns-in-Err-NoMemory-clause-told
returns-in-Err-NoMemory-clause-told g c =
    tells_refusal (asked c.args.options.now.json) (SaysSurvey (g.F.StoreFiles.known c.args.files.now) c.args.options.now c.args.dump.now.bytes.items) g.A.Write.contents c.args.answers.now c.args.answers.now c.refuse.new.answers _ c.refuse.result
    (λ other. absurd (other (ap (λ (f : Fault). f.cause) c.out_of_memory.ensures))) (λ memory. ([], writes_nil _, ([], inl refl, refl))) (rw c.of-telling.ensures at c.refuse.ensures)

pub returns-in-Err-Unread-clause-unread : goal.returns-in-Err-Unread-clause-unread
returns-in-Err-Unread-clause-unread g c = ([], inl refl, _, writes_nil _, record { kept = Keeps-refl _; counted = refl; after_fault = λ broken. broken })

pub tell_over-requires : goal.tell_over-requires
tell_over-requires g c =
    let sound = text_is_sound [] c.in-Ok.text.items _ (rw c.deref.ensures.value at c.in-Ok-read.ensures) in
    rw c.deref-in-Ok-read-2.ensures.value (c.in-Ok.ensures.text, sound.0, sound.1)

pub returns-in-Ok-read-clause-unread : goal.returns-in-Ok-read-clause-unread
returns-in-Ok-read-clause-unread g c = rw c.deref-in-Ok-read.ensures.value at c.tell_over.ensures.unread

pub returns-in-Err-NoMemory-read-clause-told : goal.returns-in-Err-NoMemory-read-clause-told
returns-in-Err-NoMemory-read-clause-told g c =
    tells_refusal (asked c.args.options.now.json) (SaysSurvey (g.F.StoreFiles.known c.args.files.now) c.args.options.now c.args.dump.now.bytes.items) g.A.Write.contents c.args.answers.now c.args.answers.now
    c.refuse-in-Err-NoMemory-read.new.answers _ c.refuse-in-Err-NoMemory-read.result
    (λ other. absurd (other (ap (λ (f : Fault). f.cause) c.out_of_memory-in-Err-NoMemory-read.ensures))) (λ memory. ([], writes_nil _, ([], inl refl, refl)))
    (rw c.of-telling.ensures at c.refuse-in-Err-NoMemory-read.ensures)

pub returns-clause-told : goal.returns-clause-told
returns-clause-told g c =
    let bad = c.in-Err-Bad.bad in
    let read : responses_in c.in-Ok.text.items ≡ Err bad =
    text_is_bad [] c.in-Ok.text.items bad (subst (λ (u : Unread). IsUnread u (exported [] c.in-Ok.text.items)) c.in-Err-Bad.field-0-is (rw c.deref.ensures.value at c.in-Err-Bad.ensures)) in
    tells (SaysSurvey (g.F.StoreFiles.known c.args.files.now) c.args.options.now c.args.dump.now.bytes.items) g.A.Write.contents c.args.answers.now c.finish.new.answers _ Refused c.finish.result
    (bad_response_told (asked c.args.options.now.json) bad) (inl (c.in-Ok.text.items, c.in-Ok.ensures.text, bad, read, refl)) (rw (c.in-Err-Bad.field-0-is, c.of-telling.ensures) at c.put_bad_response.ensures) c.finish.ensures

use Rattle.std.proofs.Common.{◌≡◌, ◌∙◌, Err, Ok, ap, inl, inr, refl, subst, sym}
use Rattle.std.proofs.lemmas.Result.{IfOk-weaker}
use Rattle.std.specs.Option.{option_copied}
use Rattle.hii_bytes.specs.declared.cause.Fault.{Fault}
use Rattle.exported_config.specs.code.Views.{IsUnread, exported_view}
use Rattle.exported_config.specs.declared.unread.Unread.{Unread}
use Rattle.store_commands.specs.Configured.{bad_response_told, config_in}
use Rattle.store_commands.specs.Imaging.{SaysImage}
use Rattle.store_commands.specs.Saying.{no_store_told}
use Rattle.audit_json.specs.Telling.{asked}
use Rattle.audit_answers.proofs.EndingLemmas.{tells_fault, tells_refused}
use Rattle.store_commands.proofs.image.fill.Goals as goal

pub returns-in-Some-clause-told : goal.returns-in-Some-clause-told
returns-in-Some-clause-told g c = λ list made are_asked.
    let unknown = rw (c.layout.ensures, c.as_slice.ensures.value) at (sym c.unknown_file.ensures ∙ ap option_copied c.in-Some.is) in
    tells_refused (SaysImage (g.F.StoreFiles.known c.args.files.now) c.args.options.now list) g.A.Write.contents g.O.Write.contents c.args.answers.now c.finish.new.answers c.args.out.now c.args.out.now _
    c.finish.result (no_store_told (asked c.args.options.now.json) c.in-Some.file.now.id) (inr (c.args.declared.now, made, inl (c.in-Some.file.now, unknown, refl)))
    (rw c.of-telling.ensures at c.put_no_store.ensures) c.finish.ensures refl

pub returns-in-Err-NoMemory-clause-told : goal.returns-in-Err-NoMemory-clause-told
returns-in-Err-NoMemory-clause-told g c = λ list made are_asked.
    tells_fault (asked c.args.options.now.json) (SaysImage (g.F.StoreFiles.known c.args.files.now) c.args.options.now list) g.A.Write.contents g.O.Write.contents c.args.answers.now c.refuse.new.answers c.args.out.now c.args.out.now
    c.out_of_memory.result c.refuse.result (λ other. absurd (other (ap (λ (f : Fault). f.cause) c.out_of_memory.ensures))) (λ memory. refl) (rw c.of-telling.ensures at c.refuse.ensures) refl

pub returns-in-Ok-config_in-clause-told : goal.returns-in-Ok-config_in-clause-told
returns-in-Ok-config_in-clause-told g c =
    let unknown = rw (c.layout.ensures, c.as_slice.ensures.value) at (sym c.unknown_file.ensures ∙ ap option_copied c.in_default.is) in
    let read : config_in c.args.declared.now c.in-Ok.text.items ≡ Ok (exported_view c.in-Ok-config_in.config) = rw c.as_slice-2.ensures.value at c.in-Ok-config_in.ensures in
    IfOk-weaker c.fill_from.result _ _ (λ ended told list made are_asked. told list c.in-Ok.text.items made are_asked unknown c.in-Ok.ensures.text read) c.fill_from.ensures.told

pub returns-in-Err-NoMemory-config_in-clause-told : goal.returns-in-Err-NoMemory-config_in-clause-told
returns-in-Err-NoMemory-config_in-clause-told g c = λ list made are_asked.
    tells_fault (asked c.args.options.now.json) (SaysImage (g.F.StoreFiles.known c.args.files.now) c.args.options.now list) g.A.Write.contents g.O.Write.contents c.args.answers.now c.refuse-in-Err-NoMemory-config_in.new.answers
    c.args.out.now c.args.out.now c.out_of_memory-in-Err-NoMemory-config_in.result c.refuse-in-Err-NoMemory-config_in.result
    (λ other. absurd (other (ap (λ (f : Fault). f.cause) c.out_of_memory-in-Err-NoMemory-config_in.ensures))) (λ memory. refl) (rw c.of-telling.ensures at c.refuse-in-Err-NoMemory-config_in.ensures) refl

pub returns-clause-told : goal.returns-clause-told
returns-clause-told g c = λ list made are_asked.
    let bad = c.in-Err-Bad.bad in
    let read : config_in c.args.declared.now c.in-Ok.text.items ≡ Err bad =
    subst (λ (unread : Unread). IsUnread unread (config_in c.args.declared.now c.in-Ok.text.items)) c.in-Err-Bad.field-0-is (rw c.as_slice-2.ensures.value at c.in-Err-Bad.ensures) in
    tells_refused (SaysImage (g.F.StoreFiles.known c.args.files.now) c.args.options.now list) g.A.Write.contents g.O.Write.contents c.args.answers.now c.finish-in-Err-Bad.new.answers
    c.args.out.now c.args.out.now _ c.finish-in-Err-Bad.result (bad_response_told (asked c.args.options.now.json) bad)
    (inr (c.args.declared.now, made, inr (inl (c.in-Ok.text.items, c.in-Ok.ensures.text, bad, read, refl)))) (rw (c.in-Err-Bad.field-0-is, c.of-telling.ensures) at c.put_bad_response.ensures) c.finish-in-Err-Bad.ensures refl

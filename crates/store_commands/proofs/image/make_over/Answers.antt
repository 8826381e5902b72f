use Rattle.std.proofs.Common.{inl, refl}
use Rattle.std.proofs.lemmas.Result.{IfOk-weaker}
use Rattle.audit_json.specs.Telling.{asked}
use Rattle.store_commands.specs.Imaging.{SaysImage}
use Rattle.audit_answers.proofs.EndingLemmas.{is_refusal, tells_fault}
use Rattle.store_commands.proofs.TextLemmas.{declared_refuses, declared_sound}
use Rattle.store_commands.proofs.image.make_over.Goals as goal

pub returns-in-Ok-clause-told : goal.returns-in-Ok-clause-told
returns-in-Ok-clause-told g c =
    let list = c.args.list.now in
    let options = c.args.options.now in
    let found = rw c.from.ensures at c.in-Ok.ensures.found in
    let sound = rw c.from.ensures at c.in-Ok.ensures.sound in
    let free = declared_sound options.defaults list options.list.forms _ c.requires sound in
    IfOk-weaker c.fill.result _ _
    (λ ended told.
    told list record { declared = record { source = found.0; found = found.1; bytes = found.2; sound = sound }; sound = free } (c.defaults_of-defaults.ensures list c.requires))
    c.fill.ensures.told

pub returns-in-Err-clause-told : goal.returns-in-Err-clause-told
returns-in-Err-clause-told g c =
    let options = c.args.options.now in
    let refused = declared_refuses options.defaults c.args.list.now options.list.forms _ c.in-Err.fault c.requires (rw c.from.ensures at c.in-Err.ensures.refused) in
    tells_fault (asked c.args.options.now.json) (SaysImage (g.F.StoreFiles.known c.args.files.now) options c.args.list.now) g.A.Write.contents g.O.Write.contents c.args.answers.now c.refuse.new.answers
    c.args.out.now c.args.out.now c.in-Err.fault c.refuse.result (λ other. inl (is_refusal (asked c.args.options.now.json) _ c.in-Err.fault refused other)) (λ memory. refl) (rw c.of.ensures at c.refuse.ensures) refl

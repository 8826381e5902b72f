use Rattle.audit_json.specs.Telling.{asked}
use Rattle.audit_commands.specs.Opcodes.{SaysOpcodes}
use Rattle.audit_answers.specs.code.Listing.{listed}
use Rattle.audit_answers.proofs.ListingLemmas.{tells_listed, tells_unlisted}
use Rattle.audit_commands.proofs.opcodes.tell.Goals as goal

pub returns-in-Ok : goal.returns-in-Ok
returns-in-Ok g c =
    let telling = asked c.args.options.json in
    tells_listed telling (λ list. SaysOpcodes telling list.bytes c.args.options.list.forms list.origin.place) g.A.Write.contents c.args.options.list.take c.args.file.now.bytes.items c.args.answers.now c.tell_list.new.answers
    c.tell_list.result (listed c.in-Ok.list) (rw c.as_slice.ensures.value at c.in-Ok.ensures.listed) (rw c.of-telling.ensures at c.tell_list.ensures)

pub returns-in-Err : goal.returns-in-Err
returns-in-Err g c =
    let telling = asked c.args.options.json in
    tells_unlisted telling (λ list. SaysOpcodes telling list.bytes c.args.options.list.forms list.origin.place) g.A.Write.contents c.args.options.list.take c.args.file.now.bytes.items c.args.answers.now c.refuse_list.new.answers
    c.refuse_list.result c.in-Err.none.number (rw c.as_slice.ensures.value at c.in-Err.ensures.unlisted) (rw c.of-telling.ensures at c.refuse_list.ensures)

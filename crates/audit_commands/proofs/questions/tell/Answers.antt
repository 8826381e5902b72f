use Rattle.audit_json.specs.Telling.{asked}
use Rattle.audit_commands.specs.Auditing.{SaysQuestions, asked_of}
use Rattle.audit_answers.specs.code.Listing.{listed}
use Rattle.audit_answers.proofs.ListingLemmas.{tells_listed, tells_unlisted}
use Rattle.audit_commands.proofs.questions.tell.Goals as goal

pub returns-in-Ok : goal.returns-in-Ok
returns-in-Ok g c =
    let telling = asked c.args.options.json in
    tells_listed telling (λ list. SaysQuestions telling (asked_of c.args.options c.args.files.now list) list.origin) g.A.Write.contents c.args.options.list.take c.args.files.now.list.bytes.items
    c.args.answers.now c.tell_of.new.answers c.tell_of.result (listed c.in-Ok.list) (rw c.as_slice.ensures.value at c.in-Ok.ensures.listed) (rw c.of-telling.ensures at c.tell_of.ensures)

pub returns-in-Err : goal.returns-in-Err
returns-in-Err g c =
    let telling = asked c.args.options.json in
    tells_unlisted telling (λ list. SaysQuestions telling (asked_of c.args.options c.args.files.now list) list.origin) g.A.Write.contents c.args.options.list.take c.args.files.now.list.bytes.items
    c.args.answers.now c.refuse_list.new.answers c.refuse_list.result c.in-Err.none.number (rw c.as_slice.ensures.value at c.in-Err.ensures.unlisted) (rw c.of-telling.ensures at c.refuse_list.ensures)

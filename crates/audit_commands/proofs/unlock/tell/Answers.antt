use Rattle.audit_json.specs.Telling.{asked}
use Rattle.audit_commands.specs.Auditing.{asked_of}
use Rattle.audit_commands.specs.Unlocking.{SaysUnlock}
use Rattle.audit_answers.specs.code.Listing.{listed}
use Rattle.audit_answers.proofs.ListingLemmas.{tells_listed, tells_unlisted}
use Rattle.audit_commands.proofs.unlock.tell.Goals as goal

pub returns-in-Ok : goal.returns-in-Ok
returns-in-Ok g c =
    tells_listed (asked c.args.options.form_set.json) (λ list. SaysUnlock (asked c.args.options.form_set.json) (asked_of c.args.options.form_set c.args.files.now list) c.args.options.id) g.A.Write.contents c.args.options.form_set.list.take
    c.args.files.now.list.bytes.items c.args.answers.now c.tell_of.new.answers c.tell_of.result (listed c.in-Ok.list) (rw c.as_slice.ensures.value at c.in-Ok.ensures.listed) c.tell_of.ensures

pub returns-in-Err : goal.returns-in-Err
returns-in-Err g c =
    tells_unlisted (asked c.args.options.form_set.json) (λ list. SaysUnlock (asked c.args.options.form_set.json) (asked_of c.args.options.form_set c.args.files.now list) c.args.options.id) g.A.Write.contents c.args.options.form_set.list.take
    c.args.files.now.list.bytes.items c.args.answers.now c.refuse_list.new.answers c.refuse_list.result c.in-Err.none.number (rw c.as_slice.ensures.value at c.in-Err.ensures.unlisted)
    (rw c.of.ensures at c.refuse_list.ensures)

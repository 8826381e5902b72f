use Rattle.audit_json.specs.Telling.{asked}
use Rattle.store_commands.specs.Storing.{SaysStores}
use Rattle.audit_answers.specs.code.Listing.{listed}
use Rattle.audit_answers.proofs.ListingLemmas.{tells_listed, tells_unlisted}
use Rattle.store_commands.proofs.stores.tell.Goals as goal

pub returns-in-Ok : goal.returns-in-Ok
returns-in-Ok g c =
    tells_listed (asked c.args.options.json) (λ list. SaysStores (asked c.args.options.json) c.args.options.headers list.bytes c.args.options.list.forms) g.A.Write.contents c.args.options.list.take c.args.file.now.bytes.items c.args.answers.now c.tell_of.new.answers
    c.tell_of.result (listed c.in-Ok.list) (rw c.as_slice.ensures.value at c.in-Ok.ensures.listed) c.tell_of.ensures

pub returns-in-Err : goal.returns-in-Err
returns-in-Err g c =
    tells_unlisted (asked c.args.options.json) (λ list. SaysStores (asked c.args.options.json) c.args.options.headers list.bytes c.args.options.list.forms) g.A.Write.contents c.args.options.list.take c.args.file.now.bytes.items c.args.answers.now c.refuse_list.new.answers
    c.refuse_list.result c.in-Err.none.number (rw c.as_slice.ensures.value at c.in-Err.ensures.unlisted) (rw c.of.ensures at c.refuse_list.ensures)

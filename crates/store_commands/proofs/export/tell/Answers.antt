use Rattle.std.proofs.Common.{option_map}
use Rattle.audit_json.specs.Telling.{asked}
use Rattle.store_commands.specs.Exporting.{SaysFields}
use Rattle.audit_answers.specs.code.Listing.{listed}
use Rattle.audit_answers.proofs.ListingLemmas.{tells_listed, tells_unlisted}
use Rattle.store_commands.proofs.export.tell.Goals as goal

pub returns-in-Ok : goal.returns-in-Ok
returns-in-Ok g c =
    let other = option_map (λ file. file.now.bytes.items) c.args.other in
    tells_listed (asked c.args.options.json) (λ list. SaysFields (asked c.args.options.json) list.bytes c.args.options.list.forms c.args.files.now.stores.bytes.items other) g.A.Write.contents c.args.options.list.take c.args.files.now.list.bytes.items
    c.args.answers.now c.tell_of.new.answers c.tell_of.result (listed c.in-Ok.list) (rw c.as_slice.ensures.value at c.in-Ok.ensures.listed)
    (rw (c.as_slice-image.ensures.value, c.bytes_of.ensures, c.of-telling.ensures) at c.tell_of.ensures)

pub returns-in-Err : goal.returns-in-Err
returns-in-Err g c =
    let other = option_map (λ file. file.now.bytes.items) c.args.other in
    tells_unlisted (asked c.args.options.json) (λ list. SaysFields (asked c.args.options.json) list.bytes c.args.options.list.forms c.args.files.now.stores.bytes.items other) g.A.Write.contents c.args.options.list.take c.args.files.now.list.bytes.items
    c.args.answers.now c.refuse_list.new.answers c.refuse_list.result c.in-Err.none.number (rw c.as_slice.ensures.value at c.in-Err.ensures.unlisted) (rw c.of-telling.ensures at c.refuse_list.ensures)

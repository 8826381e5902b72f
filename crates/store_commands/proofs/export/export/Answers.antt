use Rattle.std.proofs.Common.{refl}
use Rattle.audit_json.specs.Telling.{asked}
use Rattle.store_commands.specs.Exporting.{SaysExport}
use Rattle.audit_answers.specs.code.Listing.{listed}
use Rattle.audit_answers.proofs.ListingLemmas.{writes_listed, writes_unlisted}
use Rattle.store_commands.proofs.export.export.Goals as goal

pub returns-in-Ok : goal.returns-in-Ok
returns-in-Ok g c =
    writes_listed (asked c.args.options.json) (λ list. SaysExport (asked c.args.options.json) list.bytes c.args.options.list.forms c.args.files.now.stores.bytes.items c.args.id) g.A.Write.contents g.O.Write.contents c.args.options.list.take
    c.args.files.now.list.bytes.items c.args.answers.now c.export_of.new.answers c.args.out.now c.export_of.new.out c.export_of.result (listed c.in-Ok.list)
    (rw c.as_slice.ensures.value at c.in-Ok.ensures.listed) (rw (c.as_slice-image.ensures.value, c.of-telling.ensures) at c.export_of.ensures)

pub returns-in-Err : goal.returns-in-Err
returns-in-Err g c =
    writes_unlisted (asked c.args.options.json) (λ list. SaysExport (asked c.args.options.json) list.bytes c.args.options.list.forms c.args.files.now.stores.bytes.items c.args.id) g.A.Write.contents g.O.Write.contents c.args.options.list.take
    c.args.files.now.list.bytes.items c.args.answers.now c.refuse_list.new.answers c.args.out.now c.args.out.now c.refuse_list.result c.in-Err.none.number
    (rw c.as_slice.ensures.value at c.in-Err.ensures.unlisted) (rw c.of-telling.ensures at c.refuse_list.ensures) refl

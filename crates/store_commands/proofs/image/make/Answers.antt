use Rattle.std.proofs.Common.{refl}
use Rattle.std.proofs.lemmas.Result.{IfOk-weaker}
use Rattle.audit_json.specs.Telling.{asked}
use Rattle.store_commands.specs.Imaging.{SaysImage}
use Rattle.audit_answers.specs.code.Listing.{listed}
use Rattle.audit_answers.proofs.ListingLemmas.{writes_listed, writes_unlisted}
use Rattle.store_commands.proofs.image.make.Goals as goal

pub returns-in-Ok-clause-told : goal.returns-in-Ok-clause-told
returns-in-Ok-clause-told g c =
    IfOk-weaker c.make_of.result _ _
    (λ ended told.
    writes_listed (asked c.args.options.now.json) (λ list. SaysImage (g.F.StoreFiles.known c.args.files.now) c.args.options.now list.bytes) g.A.Write.contents g.O.Write.contents c.args.options.now.list.take
    c.args.file.now.bytes.items c.args.answers.now c.make_of.new.answers c.args.out.now c.make_of.new.out ended (listed c.in-Ok.list) (rw c.as_slice.ensures.value at c.in-Ok.ensures.listed) told)
    c.make_of.ensures.told

pub returns-in-Err-clause-told : goal.returns-in-Err-clause-told
returns-in-Err-clause-told g c =
    writes_unlisted (asked c.args.options.now.json) (λ list. SaysImage (g.F.StoreFiles.known c.args.files.now) c.args.options.now list.bytes) g.A.Write.contents g.O.Write.contents c.args.options.now.list.take
    c.args.file.now.bytes.items c.args.answers.now c.refuse_list.new.answers c.args.out.now c.args.out.now c.refuse_list.result c.in-Err.none.number
    (rw c.as_slice.ensures.value at c.in-Err.ensures.unlisted) (rw c.of.ensures at c.refuse_list.ensures) refl

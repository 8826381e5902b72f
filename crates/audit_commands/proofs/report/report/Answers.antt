use Rattle.std.proofs.Common.{refl, subst}
use Rattle.audit_json.specs.declared.telling.Telling.TheVariants.{Lines}
use Rattle.audit_answers.specs.Endings.{TellsAndWrites}
use Rattle.audit_answers.specs.code.Listing.{listed}
use Rattle.audit_answers.proofs.ListingLemmas.{writes_listed, writes_unlisted}
use Rattle.audit_commands.specs.Auditing.{Asked, asked_of}
use Rattle.audit_commands.specs.Reporting.{SaysReport}
use Rattle.audit_commands.proofs.report.report.Goals as goal

pub returns-in-Ok : goal.returns-in-Ok
returns-in-Ok g c =
    let told = subst
    (λ (a : Asked). TellsAndWrites (SaysReport a) g.A.Write.contents g.O.Write.contents c.args.answers.now c.args.out.now c.report_on.result c.report_on.new.answers c.report_on.new.out) c.given_of-given.ensures.asked
    c.report_on.ensures in
    writes_listed Lines (λ list. SaysReport (asked_of c.args.options.form_set c.args.files.now list)) g.A.Write.contents g.O.Write.contents c.args.options.form_set.list.take c.args.files.now.list.bytes.items
    c.args.answers.now c.report_on.new.answers c.args.out.now c.report_on.new.out c.report_on.result (listed c.in-Ok.list) (rw c.as_slice.ensures.value at c.in-Ok.ensures.listed) told

pub returns-in-Err : goal.returns-in-Err
returns-in-Err g c =
    writes_unlisted Lines (λ list. SaysReport (asked_of c.args.options.form_set c.args.files.now list)) g.A.Write.contents g.O.Write.contents c.args.options.form_set.list.take c.args.files.now.list.bytes.items
    c.args.answers.now c.refuse_list.new.answers c.args.out.now c.args.out.now c.refuse_list.result c.in-Err.none.number (rw c.as_slice.ensures.value at c.in-Err.ensures.unlisted) c.refuse_list.ensures refl

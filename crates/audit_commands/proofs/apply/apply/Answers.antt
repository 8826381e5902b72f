use Rattle.std.proofs.Common.{refl, subst}
use Rattle.audit_json.specs.Telling.{asked}
use Rattle.audit_answers.specs.Endings.{TellsAndWrites}
use Rattle.audit_answers.specs.code.Listing.{listed}
use Rattle.audit_answers.proofs.ListingLemmas.{writes_listed, writes_unlisted}
use Rattle.audit_commands.specs.Applying.{SaysApply}
use Rattle.audit_commands.specs.Auditing.{Asked, asked_of}
use Rattle.audit_commands.proofs.apply.apply.Goals as goal

pub returns-in-Ok : goal.returns-in-Ok
returns-in-Ok g c =
    let telling = asked c.args.options.form_set.json in
    let script = c.args.script.now.bytes.items in
    let told = subst
    (λ (a : Asked). TellsAndWrites (SaysApply telling a c.in-Ok.list.origin script) g.A.Write.contents g.O.Write.contents c.args.answers.now c.args.out.now c.apply_to.result c.apply_to.new.answers c.apply_to.new.out)
    c.given_of-given.ensures.asked (rw (c.of-telling.ensures, c.as_slice-script.ensures.value) at c.apply_to.ensures) in
    writes_listed telling (λ list. SaysApply telling (asked_of c.args.options.form_set c.args.files.now list) list.origin script) g.A.Write.contents g.O.Write.contents c.args.options.form_set.list.take
    c.args.files.now.list.bytes.items c.args.answers.now c.apply_to.new.answers c.args.out.now c.apply_to.new.out c.apply_to.result (listed c.in-Ok.list) (rw c.as_slice.ensures.value at c.in-Ok.ensures.listed) told

pub returns-in-Err : goal.returns-in-Err
returns-in-Err g c =
    let telling = asked c.args.options.form_set.json in
    writes_unlisted telling (λ list. SaysApply telling (asked_of c.args.options.form_set c.args.files.now list) list.origin c.args.script.now.bytes.items) g.A.Write.contents g.O.Write.contents
    c.args.options.form_set.list.take c.args.files.now.list.bytes.items c.args.answers.now c.refuse_list.new.answers c.args.out.now c.args.out.now c.refuse_list.result c.in-Err.none.number
    (rw c.as_slice.ensures.value at c.in-Err.ensures.unlisted) (rw c.of-telling.ensures at c.refuse_list.ensures) refl

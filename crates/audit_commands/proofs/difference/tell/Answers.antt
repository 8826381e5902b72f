use Rattle.audit_json.specs.Telling.{asked}
use Rattle.std.proofs.Common.{ℕ, List, subst}
use Rattle.audit_json.specs.declared.telling.Telling.{Telling}
use Rattle.audit_commands.specs.Auditing.{Asked, asked_of}
use Rattle.audit_commands.specs.Differing.{SaysDifference}
use Rattle.audit_commands.specs.code.Givens.{given_asked}
use Rattle.audit_answers.specs.Endings.{Tells}
use Rattle.audit_answers.specs.code.Listing.{listed}
use Rattle.audit_answers.proofs.ListingLemmas.{tells_listed, tells_unlisted}
use Rattle.audit_commands.proofs.difference.tell.Goals as goal

pub returns-in-Ok : goal.returns-in-Ok
returns-in-Ok g c =
    let image = c.args.other.now.bytes.items in
    let lines = asked c.args.options.json in
    let given = given_asked c.given_of-given.result in
    let bytes = c.as_slice-in-Ok.result.now in
    let said = subst (λ (t : Telling). Tells (SaysDifference t given bytes) g.A.Write.contents c.args.answers.now c.tell_of.result c.tell_of.new.answers) c.of-telling.ensures c.tell_of.ensures in
    let over = subst (λ (other : List ℕ). Tells (SaysDifference lines given other) g.A.Write.contents c.args.answers.now c.tell_of.result c.tell_of.new.answers) c.as_slice-in-Ok.ensures.value said in
    let told = subst (λ (a : Asked). Tells (SaysDifference lines a image) g.A.Write.contents c.args.answers.now c.tell_of.result c.tell_of.new.answers) c.given_of-given.ensures.asked over in
    tells_listed (asked c.args.options.json) (λ list. SaysDifference (asked c.args.options.json) (asked_of c.args.options c.args.files.now list) image) g.A.Write.contents c.args.options.list.take c.args.files.now.list.bytes.items c.args.answers.now
    c.tell_of.new.answers c.tell_of.result (listed c.in-Ok.list) (rw c.as_slice.ensures.value at c.in-Ok.ensures.listed) told

pub returns-in-Err : goal.returns-in-Err
returns-in-Err g c =
    let image = c.args.other.now.bytes.items in
    tells_unlisted (asked c.args.options.json) (λ list. SaysDifference (asked c.args.options.json) (asked_of c.args.options c.args.files.now list) image) g.A.Write.contents c.args.options.list.take c.args.files.now.list.bytes.items c.args.answers.now
    c.refuse_list.new.answers c.refuse_list.result c.in-Err.none.number (rw c.as_slice.ensures.value at c.in-Err.ensures.unlisted) (rw c.of-telling.ensures at c.refuse_list.ensures)

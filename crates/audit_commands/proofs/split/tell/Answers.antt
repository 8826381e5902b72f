use Rattle.audit_json.specs.Telling.{asked}
use Rattle.std.proofs.Common.{ap, refl}
use Rattle.hii_bytes.specs.declared.cause.Fault.{Fault}
use Rattle.audit_commands.specs.Splitting.{SaysLists}
use Rattle.audit_answers.specs.declared.ended.Ended.TheVariants.{Done, Refused}
use Rattle.audit_answers.proofs.EndingLemmas.{tells, tells_refusal}
use Rattle.audit_commands.proofs.split.tell.Goals as goal

pub returns-in-Ok-true : goal.returns-in-Ok-true
returns-in-Ok-true g c =
    let told = rw (c.as_slice.ensures.value, c.of-telling.ensures, c.in-Ok-true.field-0-test) at c.in-Ok-true.ensures.told in
    tells (SaysLists (asked c.args.options.json) c.args.dump.now.bytes.items) g.A.Write.contents c.args.answers.now c.finish.new.answers _ Done c.finish.result told.0 told.1 told.2 c.finish.ensures

pub returns-in-Ok-false : goal.returns-in-Ok-false
returns-in-Ok-false g c =
    let told = rw (c.as_slice.ensures.value, c.of-telling.ensures, c.in-Ok-false.field-0-test) at c.in-Ok-false.ensures.told in
    tells (SaysLists (asked c.args.options.json) c.args.dump.now.bytes.items) g.A.Write.contents c.args.answers.now c.finish-in-Ok-false.new.answers _ Refused c.finish-in-Ok-false.result told.0 told.1 told.2 c.finish-in-Ok-false.ensures

pub returns-in-Err : goal.returns-in-Err
returns-in-Err g c =
    let begun = rw (c.as_slice.ensures.value, c.of-telling.ensures) at c.in-Err.ensures.begun in
    tells_refusal (asked c.args.options.json) (SaysLists (asked c.args.options.json) c.args.dump.now.bytes.items) g.A.Write.contents c.args.answers.now c.put_split.new.out c.refuse.new.answers _ c.refuse.result
    (λ other. absurd (other (ap (λ (f : Fault). f.cause) c.from.ensures))) (λ memory. (begun.0, begun.2, (begun.0, begun.1, refl))) (rw c.of-telling.ensures at c.refuse.ensures)

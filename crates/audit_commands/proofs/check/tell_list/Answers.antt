use Rattle.std.proofs.Common.{ap, refl}
use Rattle.hii_bytes.specs.declared.cause.Fault.{Fault}
use Rattle.audit_answers.specs.declared.ended.Ended.TheVariants.{Done, Refused}
use Rattle.audit_answers.proofs.EndingLemmas.{tells, tells_refusal}
use Rattle.audit_commands.specs.Checking.{SaysCheck}
use Rattle.audit_commands.proofs.check.tell_list.Goals as goal

pub put_check-requires : goal.put_check-requires
put_check-requires g c = c.args.list.in_file

pub returns-in-Ok-true : goal.returns-in-Ok-true
returns-in-Ok-true g c =
    let told = rw c.in-Ok-true.field-0-test at c.in-Ok-true.ensures.told in
    tells (SaysCheck c.args.telling c.args.list.bytes.now c.args.list.origin.place) g.A.Write.contents c.args.answers.now c.finish.new.answers _ Done c.finish.result told.0 told.1 told.2 c.finish.ensures

pub returns-in-Ok-false : goal.returns-in-Ok-false
returns-in-Ok-false g c =
    let told = rw c.in-Ok-false.field-0-test at c.in-Ok-false.ensures.told in
    tells (SaysCheck c.args.telling c.args.list.bytes.now c.args.list.origin.place) g.A.Write.contents c.args.answers.now c.finish-in-Ok-false.new.answers _ Refused c.finish-in-Ok-false.result told.0 told.1
    told.2 c.finish-in-Ok-false.ensures

pub returns-in-Err : goal.returns-in-Err
returns-in-Err g c =
    let begun = c.in-Err.ensures.begun in
    tells_refusal c.args.telling (SaysCheck c.args.telling c.args.list.bytes.now c.args.list.origin.place) g.A.Write.contents c.args.answers.now c.put_check.new.out c.refuse.new.answers _ c.refuse.result
    (λ other. absurd (other (ap (λ (f : Fault). f.cause) c.from.ensures))) (λ memory. (begun.0, begun.2, (begun.0, begun.1, refl))) c.refuse.ensures

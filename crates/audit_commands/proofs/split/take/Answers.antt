use Rattle.audit_json.specs.Telling.{asked}
use Rattle.std.proofs.Common.{ap, refl}
use Rattle.hii_bytes.specs.declared.cause.Fault.{Fault}
use Rattle.audit_commands.specs.Splitting.{SaysTaken}
use Rattle.audit_answers.proofs.EndingLemmas.{tells_fault}
use Rattle.audit_commands.proofs.SplittingLemmas.{takes, takes_none}
use Rattle.audit_commands.proofs.split.take.Goals as goal

pub returns-in-Ok-true : goal.returns-in-Ok-true
returns-in-Ok-true g c =
    let t = rw (c.as_slice-bytes.ensures.value, c.of-telling.ensures, c.in-Ok-true.field-0-test) at c.in-Ok-true.ensures.taken in
    takes (asked c.args.options.json) g.A.Write.contents g.O.Write.contents c.args.dump.now.bytes.items c.args.taken.number c.args.answers.now c.put_taken.new.out c.args.out.now c.put_taken.new.file c.commit.new.out
    c.commit.result t.0 t.1 t.2 t.3 (c.in-Ok-true.ensures.none_held c.in-Ok-true.field-0-test) c.commit.ensures.unwritten c.commit.ensures.written

pub returns-in-Ok-false : goal.returns-in-Ok-false
returns-in-Ok-false g c =
    let t = rw (c.as_slice-bytes.ensures.value, c.of-telling.ensures, c.in-Ok-false.field-0-test) at c.in-Ok-false.ensures.taken in
    takes_none (asked c.args.options.json) g.A.Write.contents g.O.Write.contents c.args.dump.now.bytes.items c.args.taken.number c.args.answers.now c.put_taken.new.out c.finish.new.answers c.args.out.now
    c.put_taken.new.file _ c.finish.result t.0 t.1 t.2 t.3 c.finish.ensures

pub returns-in-Err : goal.returns-in-Err
returns-in-Err g c =
    tells_fault (asked c.args.options.json) (SaysTaken (asked c.args.options.json) c.args.dump.now.bytes.items c.args.taken.number) g.A.Write.contents g.O.Write.contents c.args.answers.now c.refuse.new.answers c.args.out.now c.put_taken.new.file
    c.from.result c.refuse.result (λ other. absurd (other (ap (λ (f : Fault). f.cause) c.from.ensures))) (λ memory. refl) (rw (c.in-Err.ensures.nothing_told, c.of-telling.ensures) at c.refuse.ensures)
    c.in-Err.ensures.nothing_taken

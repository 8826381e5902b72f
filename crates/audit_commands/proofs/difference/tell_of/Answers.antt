use Rattle.std.proofs.Common.{[], refl}
use Rattle.std.specs.Io.Buffered.{writer_contents}
use Rattle.audit_commands.specs.Differing.{SaysDifference}
use Rattle.audit_commands.specs.code.Givens.{given_asked}
use Rattle.audit_answers.specs.declared.ended.Ended.TheVariants.{Done}
use Rattle.audit_answers.proofs.EndingLemmas.{is_refusal, none_written, tells, tells_refusal}
use Rattle.audit_commands.proofs.difference.tell_of.Goals as goal

pub returns-in-Ok : goal.returns-in-Ok
returns-in-Ok g c =
    let told = c.in-Ok.ensures.told in
    tells (SaysDifference c.args.telling (given_asked c.args.given) c.args.other.now) g.A.Write.contents c.args.answers.now c.finish.new.answers _ Done c.finish.result told.0 told.1 told.2 c.finish.ensures

pub returns-in-Err : goal.returns-in-Err
returns-in-Err g c =
    let none = none_written (writer_contents g.A.Write.contents) c.args.answers.now c.put_lines.new.out c.in-Err.ensures.nothing in
    tells_refusal c.args.telling (SaysDifference c.args.telling (given_asked c.args.given) c.args.other.now) g.A.Write.contents c.args.answers.now c.put_lines.new.out c.refuse.new.answers c.in-Err.fault c.refuse.result
    (λ other. ([], none, is_refusal c.args.telling _ c.in-Err.fault c.in-Err.ensures.refused other)) (λ memory. ([], none, refl)) c.refuse.ensures

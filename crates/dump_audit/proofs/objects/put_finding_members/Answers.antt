use Rattle.std.proofs.Common.{subst, sym}
use Rattle.hii_bytes.specs.Watching.{Writes, pen_of}
use Rattle.dump_audit.specs.Findings.{Finding}
use Rattle.dump_audit.specs.Objects.{finding_members}
use Rattle.dump_audit.proofs.objects.put_finding_members.Goals as goal

pub returns-in-Ok : goal.returns-in-Ok
returns-in-Ok g c = λ finding is.
    let its = rw c.in-Ok.is at is in
    subst (λ (f : Finding). Writes (pen_of g.W.Write.contents c.args.out.now) (pen_of g.W.Write.contents c.put_contents_members.new.out) (finding_members f)) (sym its.2) (c.put_contents_members.ensures its.0 its.1)

pub returns-in-Err : goal.returns-in-Err
returns-in-Err g c = λ finding is.
    let its = rw c.in-Err.is at is in
    subst (λ (f : Finding). Writes (pen_of g.W.Write.contents c.args.out.now) (pen_of g.W.Write.contents c.put_fault_member.new.out) (finding_members f)) (sym its) c.put_fault_member.ensures

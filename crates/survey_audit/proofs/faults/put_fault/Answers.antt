use Rattle.std.proofs.Common.{subst, sym}
use Rattle.hii_bytes.specs.Watching.{Writes, pen_of}
use Rattle.audit_json.specs.Telling.{told_as}
use Rattle.audit_json.specs.declared.telling.Telling.{Telling}
use Rattle.survey_audit.specs.Lines.{fault_line, fault_object}
use Rattle.survey_audit.specs.code.Headings.{heading_of}
use Rattle.survey_audit.proofs.faults.put_fault.Goals as goal

pub returns-in-Objects : goal.returns-in-Objects
returns-in-Objects g c =
    let h = heading_of c.args.heading in
    subst
    (λ (t : Telling). Writes (pen_of g.W.Write.contents c.args.out.now) (pen_of g.W.Write.contents c.put_object.new.out) (told_as t (fault_line h c.args.fault) (fault_object h c.args.fault)))
    (sym c.in-Objects.is) c.put_object.ensures

use Rattle.std.proofs.Common.{sym, subst}
use Rattle.std.proofs.lemmas.Bool.{cond-false, cond-true}
use Rattle.hii_bytes.specs.Watching.{Writes}
use Rattle.hii_packages.specs.code.Package.{package_of}
use Rattle.hii_bytes.proofs.WritingLemmas.{writes_nil}
use Rattle.dump_audit.specs.Contents.{begins_with_form_set}
use Rattle.survey_audit.proofs.faults.put_guid_members.Goals as goal

pub returns-in-Some : goal.returns-in-Some
returns-in-Some g c =
    let e = c.in-Some.ensures in
    subst (Writes _ _) (sym (cond-true (begins_with_form_set (package_of c.args.source)) _ _ e.0)) (rw e.1 at c.put_guid_member.ensures)

pub returns-in_default : goal.returns-in_default
returns-in_default g c = subst (Writes _ _) (sym (cond-false (begins_with_form_set (package_of c.args.source)) _ _ c.in_default.ensures)) (writes_nil _)

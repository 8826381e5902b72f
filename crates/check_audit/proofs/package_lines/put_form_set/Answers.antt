use Rattle.std.proofs.Common.{sym, subst}
use Rattle.std.proofs.lemmas.Bool.{cond-true}
use Rattle.hii_bytes.specs.Watching.{Writes}
use Rattle.hii_packages.specs.code.Package.{package_of}
use Rattle.dump_audit.specs.Contents.{begins_with_form_set}
use Rattle.hii_bytes.proofs.WritingLemmas.{◌⨾◌}
use Rattle.check_audit.proofs.package_lines.put_form_set.Goals as goal

pub returns : goal.returns
returns g c =
    let e = c.in-Some.ensures in
    subst (Writes _ _) (sym (cond-true (begins_with_form_set (package_of c.args.source)) _ _ e.0)) ((rw e.1 at c.put_guid.ensures) ⨾ c.put-2.ensures ⨾ (rw (c.chars.ensures, c.shown.ensures, e.2) at c.put_safe_shown.ensures))

use Rattle.std.proofs.Common.{filter, map, codes}
use Rattle.hii_bytes.specs.Watching.{pen_of}
use Rattle.hii_packages.specs.Packages.{packages_of}
use Rattle.audit_json.proofs.ArrayLemmas.{Lists}
use Rattle.dump_audit.specs.Contents.{begins_with_form_set, form_sets}
use Rattle.dump_audit.specs.Objects.{guid_value}
use Rattle.dump_audit.proofs.contents.put_guids_member.Given as goal

-- the GUIDs before those that are left are written
abbrev pub invariant-loop-source : goal.invariant-loop-source
invariant-loop-source g l =
    Lists (codes "guids") (map guid_value (form_sets (packages_of l.list))) (map guid_value (filter begins_with_form_set l.source-iterator)) l.is_first
    (pen_of g.W.Write.contents l.fn.out) (pen_of g.W.Write.contents l.out)

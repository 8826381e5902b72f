use Rattle.std.proofs.Common.{None, drop}
use Rattle.hii_bytes.specs.Watching.{pen_of}
use Rattle.hii_bytes.specs.code.Writing.{Stands}
use Rattle.check_audit.specs.WarningLines.{warnings_behind}
use Rattle.check_audit.specs.code.Detailing.{details_of}
use Rattle.check_audit.proofs.warning_lines.put_warnings.Given as goal

-- the warnings before those that are left are written
abbrev pub invariant-loop-warning : goal.invariant-loop-warning
invariant-loop-warning g l =
    Stands (pen_of g.W.Write.contents l.fn.out) (pen_of g.W.Write.contents l.out) (warnings_behind l.fn.telling (details_of l.fn.details) None l.fn.warnings) (warnings_behind l.fn.telling (details_of l.fn.details) l.last (drop l.warning-index l.warnings))

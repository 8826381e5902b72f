use Rattle.std.specs.List.{flat_map}
use Rattle.hii_bytes.specs.Watching.{pen_of}
use Rattle.hii_bytes.specs.code.Writing.{Stands}
use Rattle.guard_policy.specs.code.WarningsLeft.{warnings_left}
use Rattle.script_audit.specs.Walk.{warning_told}
use Rattle.script_audit.specs.code.Pages.{seen_in}
use Rattle.script_audit.proofs.walk.put_left.Given as goal

-- the warnings before those that are left were written
abbrev pub invariant-loop-warning : goal.invariant-loop-warning
invariant-loop-warning g l =
    let line = warning_told l.telling l.number (seen_in l.page) in
    record {
      can : (goal.iterator-loop-warning g).can_next l.warnings;
      ends : (goal.iterator-loop-warning g).is_finite l.warnings;
      text : Stands (pen_of g.W.Write.contents l.fn.out) (pen_of g.W.Write.contents l.out) (flat_map line (warnings_left l.fn.warnings)) (flat_map line (warnings_left l.warnings));
    }

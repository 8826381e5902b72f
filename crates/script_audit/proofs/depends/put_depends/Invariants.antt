use Rattle.std.proofs.Common.{◌-◌, ◌≤◌}
use Rattle.std.specs.Prelude.{filter}
use Rattle.std.specs.List.{flat_map, range_with_len}
use Rattle.hii_bytes.specs.Watching.{pen_of}
use Rattle.hii_bytes.specs.code.NumberSets.{has_number}
use Rattle.hii_bytes.specs.code.Writing.{Stands}
use Rattle.question_audit.specs.Dependences.{all_ids}
use Rattle.script_audit.specs.Depends.{depends_told}
use Rattle.script_audit.specs.code.Pages.{seen_in}
use Rattle.script_audit.proofs.depends.put_depends.Given as goal

-- the ids below the number were written
abbrev pub invariant-loop-number : goal.invariant-loop-number
invariant-loop-number g l =
    let line = depends_told l.telling (seen_in l.page) in
    record {
      few : l.number ≤ 65536;
      written : Stands (pen_of g.W.Write.contents l.fn.out) (pen_of g.W.Write.contents l.out) (flat_map line (filter (has_number l.ids) all_ids))
          (flat_map line (filter (has_number l.ids) (range_with_len l.number (65536 - l.number))));
    }

abbrev pub decreases-loop-number : goal.decreases-loop-number
decreases-loop-number g l = 65536 - l.number

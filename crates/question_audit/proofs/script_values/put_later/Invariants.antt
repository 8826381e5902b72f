use Rattle.std.proofs.Common.{length, ◌++◌, codes, decimal}
use Rattle.std.specs.List.{flat_map}
use Rattle.hii_bytes.specs.Watching.{pen_of}
use Rattle.hii_bytes.specs.code.Writing.{Stands}
use Rattle.hii_values.specs.code.StoredLeft.{stored_left}
use Rattle.question_audit.proofs.script_values.put_later.Given as goal

-- the numbers before those that are left were written
abbrev pub invariant-loop-item : goal.invariant-loop-item
invariant-loop-item g l =
    Stands (pen_of g.W.Write.contents l.fn.out) (pen_of g.W.Write.contents l.out) (flat_map (λ item. codes "," ++ decimal item) (stored_left l.fn.items))
    (flat_map (λ item. codes "," ++ decimal item) (stored_left l.items))

abbrev pub decreases-loop-item : goal.decreases-loop-item
decreases-loop-item g l = length (stored_left l.items)

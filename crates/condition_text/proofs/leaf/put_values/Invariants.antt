use Rattle.std.proofs.Common.{◌++◌, length}
use Rattle.std.specs.Prelude.{codes, decimal}
use Rattle.std.specs.List.{flat_map}
use Rattle.hii_bytes.specs.Watching.{pen_of}
use Rattle.hii_bytes.specs.code.Writing.{Stands}
use Rattle.ifr_opcodes.specs.code.Views.{values_left}
use Rattle.condition_text.proofs.leaf.put_values.Given as goal

-- the numbers before those that are left were written
abbrev pub invariant-loop-value : goal.invariant-loop-value
invariant-loop-value g l =
    Stands (pen_of g.W.Write.contents l.fn.out) (pen_of g.W.Write.contents l.out) (flat_map (λ value. codes " " ++ decimal value) (values_left l.fn.values))
    (flat_map (λ value. codes " " ++ decimal value) (values_left l.values))

abbrev pub decreases-loop-value : goal.decreases-loop-value
decreases-loop-value g l = length (values_left l.values)

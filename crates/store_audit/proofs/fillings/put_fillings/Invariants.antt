use Rattle.std.proofs.Common.{take}
use Rattle.std.specs.List.{flat_map}
use Rattle.hii_bytes.specs.Watching.{pen_of, Writes}
use Rattle.store_audit.specs.code.Fillings.{filling_told}
use Rattle.store_audit.proofs.fillings.put_fillings.Given as goal

-- the lines of the stores so far are written
abbrev pub invariant-loop-filling : goal.invariant-loop-filling
invariant-loop-filling g l =
    Writes (pen_of g.W.Write.contents l.fn.out) (pen_of g.W.Write.contents l.out) (flat_map (filling_told l.telling) (take l.filling-index l.fillings))

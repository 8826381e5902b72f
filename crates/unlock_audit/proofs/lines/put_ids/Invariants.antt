use Rattle.std.proofs.Common.{◌++◌, codes, decimal, drop, map}
use Rattle.std.specs.List.{flat_map}
use Rattle.hii_bytes.specs.Watching.{pen_of}
use Rattle.hii_bytes.specs.code.Writing.{Stands}
use Rattle.unlock_audit.specs.Told.{ids_text}
use Rattle.unlock_audit.proofs.lines.put_ids.Given as goal

-- the ids before those that are left are written
abbrev pub invariant-loop-id : goal.invariant-loop-id
invariant-loop-id g l = Stands (pen_of g.W.Write.contents l.fn.out) (pen_of g.W.Write.contents l.out) (ids_text l.ids) (flat_map (λ next. codes ", " ++ next) (map (λ id. decimal id) (drop l.id-index l.others)))

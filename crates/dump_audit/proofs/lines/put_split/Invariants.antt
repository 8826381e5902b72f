use Rattle.hii_bytes.specs.Watching.{pen_of}
use Rattle.hii_dumps.specs.Dumps.{placed}
use Rattle.dump_audit.proofs.LineLemmas.{Goes}
use Rattle.dump_audit.proofs.lines.put_split.Given as goal

-- the lists so far are told
abbrev pub invariant-loop-list : goal.invariant-loop-list
invariant-loop-list g l = Goes l.telling (placed 0 l.split.lists) l.list-iterator l.number (pen_of g.W.Write.contents l.fn.out) (pen_of g.W.Write.contents l.out)

use Rattle.hii_bytes.specs.Watching.{pen_of}
use Rattle.check_audit.proofs.CheckLemmas.{Goes}
use Rattle.check_audit.proofs.check.put_packages.Given as goal

-- the forms packages before those that are left are told
abbrev pub invariant-loop-source : goal.invariant-loop-source
invariant-loop-source g l = Goes l.told.telling l.packages l.told.start l.source-iterator l.number l.is_good (pen_of g.W.Write.contents l.fn.out) (pen_of g.W.Write.contents l.out)

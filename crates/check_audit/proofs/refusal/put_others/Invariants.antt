use Rattle.std.proofs.Common.{drop}
use Rattle.hii_bytes.specs.Watching.{pen_of}
use Rattle.hii_bytes.specs.code.Writing.{Stands}
use Rattle.check_audit.specs.Lines.{others_told}
use Rattle.check_audit.proofs.refusal.put_others.Given as goal

-- the faults before those that are left are written
abbrev pub invariant-loop-fault : goal.invariant-loop-fault
invariant-loop-fault g l =
    Stands (pen_of g.W.Write.contents l.fn.out) (pen_of g.W.Write.contents l.out) (others_told l.setting.telling l.setting.base l.fn.others) (others_told l.setting.telling l.setting.base (drop l.fault-index l.others))

use Rattle.std.proofs.Common.{◌-◌, drop, false, length}
use Rattle.hii_bytes.specs.Watching.{pen_of}
use Rattle.hii_bytes.specs.code.Writing.{Stands}
use Rattle.ifr_nodes.specs.Nodes.{nodes_of}
use Rattle.image_audit.specs.Difference.{runs_told}
use Rattle.image_audit.proofs.runs.put_runs.Given as goal

-- the lines of the runs that begin before this offset are written
abbrev pub invariant-loop-at : goal.invariant-loop-at
invariant-loop-at g l = Stands (pen_of g.W.Write.contents l.fn.out) (pen_of g.W.Write.contents l.out) (runs_told l.telling (nodes_of l.names) l.store false 0 l.one l.other)
    (runs_told l.telling (nodes_of l.names) l.store l.inside l.at (drop l.at l.one) (drop l.at l.other))

abbrev pub decreases-loop-at : goal.decreases-loop-at
decreases-loop-at g l = length l.one - l.at

use Rattle.std.proofs.Common.{◌-◌, ◌≤◌, replicate}
use Rattle.hii_bytes.specs.Watching.{pen_of, Writes}
use Rattle.hii_bytes.proofs.watched.Watched.put_spaces.Given as goal

-- the spaces that are not left are written
abbrev pub invariant-loop-left : goal.invariant-loop-left
invariant-loop-left g l = record {
  within : l.left ≤ l.count;
  written : Writes (pen_of g.W.Write.contents l.fn.self) (pen_of g.W.Write.contents l.self) (replicate (l.count - l.left) 32);
}

abbrev pub decreases-loop-left : goal.decreases-loop-left
decreases-loop-left g l = l.left

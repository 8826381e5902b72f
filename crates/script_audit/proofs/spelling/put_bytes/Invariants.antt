use Rattle.std.proofs.Common.{length}
use Rattle.bstr.specs.Utf8.{lossy_chars}
use Rattle.hii_bytes.specs.Watching.{pen_of}
use Rattle.hii_bytes.specs.code.Writing.{Stands}
use Rattle.script_audit.specs.Told.{spelled}
use Rattle.script_audit.proofs.spelling.put_bytes.Given as goal

-- the characters before those that are left were written
abbrev pub invariant-loop-c : goal.invariant-loop-c
invariant-loop-c g l = Stands (pen_of g.W.Write.contents l.fn.out) (pen_of g.W.Write.contents l.out) (spelled l.telling (lossy_chars l.fn.bytes)) (spelled l.telling l.left)

abbrev pub decreases-loop-c : goal.decreases-loop-c
decreases-loop-c g l = length l.left

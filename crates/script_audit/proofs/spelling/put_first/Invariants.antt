use Rattle.std.proofs.Common.{take}
use Rattle.bstr.specs.Utf8.{lossy_chars}
use Rattle.hii_bytes.specs.Watching.{pen_of}
use Rattle.hii_bytes.specs.code.Writing.{Stands}
use Rattle.script_audit.specs.Told.{spelled}
use Rattle.script_audit.proofs.spelling.put_first.Given as goal

-- the characters before those that are left were written
abbrev pub invariant-loop-room : goal.invariant-loop-room
invariant-loop-room g l = Stands (pen_of g.W.Write.contents l.fn.out) (pen_of g.W.Write.contents l.out) (spelled l.telling (take l.most (lossy_chars l.fn.bytes))) (spelled l.telling (take l.room l.left))

abbrev pub decreases-loop-room : goal.decreases-loop-room
decreases-loop-room g l = l.room

use Rattle.std.proofs.Common.{length, map}
use Rattle.hii_bytes.specs.Watching.{pen_of}
use Rattle.hii_bytes.specs.code.Writing.{Stands}
use Rattle.audit_text.specs.Texts.{ascii_name, shown_byte}
use Rattle.script_audit.specs.Told.{spelled}
use Rattle.script_audit.proofs.spelling.put_name.Given as goal

-- the bytes before the rest are written
abbrev pub invariant-loop-rest : goal.invariant-loop-rest
invariant-loop-rest g l = Stands (pen_of g.W.Write.contents l.fn.out) (pen_of g.W.Write.contents l.out) (spelled l.telling (ascii_name l.name)) (spelled l.telling (map shown_byte l.rest))

abbrev pub decreases-loop-rest : goal.decreases-loop-rest
decreases-loop-rest g l = length l.rest

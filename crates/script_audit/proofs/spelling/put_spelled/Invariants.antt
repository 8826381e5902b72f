use Rattle.hii_bytes.specs.Watching.{pen_of}
use Rattle.hii_bytes.specs.code.Writing.{Stands}
use Rattle.hii_languages.specs.code.Views.{chars_left}
use Rattle.script_audit.specs.Told.{spelled}
use Rattle.script_audit.proofs.spelling.put_spelled.Given as goal

-- the characters before those that are left were written
abbrev pub invariant-loop-c : goal.invariant-loop-c
invariant-loop-c g l = Stands (pen_of g.W.Write.contents l.fn.out) (pen_of g.W.Write.contents l.out) (spelled l.telling (chars_left l.fn.text)) (spelled l.telling (chars_left l.text))
